mod ArgumentLemmas
mod WriteLemmas
