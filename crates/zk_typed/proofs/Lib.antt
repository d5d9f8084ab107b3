mod MeaningRows
mod RuleRows
