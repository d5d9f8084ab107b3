mod CommandLaws
mod Numerals
mod Rows
mod SpellingLaws
