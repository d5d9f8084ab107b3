-- What a search for an end comes to.
use Rattle.std.specs.Prelude.{◌≡◌, ℕ, ◌<◌, ◌≤◌, false, List, length, take}
use Rattle.zk_http.specs.declared.search.Ending.{Ending}
use Rattle.zk_http.specs.declared.search.Ending.TheVariants.{Line, Section, Head}
use Rattle.zk_http.specs.declared.search.Found.{Found}
use Rattle.zk_http.specs.declared.search.Found.TheVariants.{Ends, TooLong, Waits}
use Rattle.zk_http.specs.Chunks.{chunk_line_limit}
use Rattle.zk_http.specs.Heads.{head_limit}
use Rattle.zk_http.specs.Search.{ends, FindsAt, KnowsAll}

-- how many bytes count at most
abbrev pub limit_of : Ending → ℕ
limit_of Line = chunk_line_limit
limit_of Section = head_limit
limit_of Head = head_limit

-- no front of these bytes ends so
abbrev pub EndsNowhere : Ending → List ℕ → Type 0
EndsNowhere ending bytes = (k : ℕ) → k ≤ length bytes → ends ending (take k bytes) ≡ false

-- what was found in the bytes that count
abbrev pub IsFound : Found → Ending → List ℕ → Type 0
IsFound (Ends search len) ending bytes = FindsAt search ending bytes len
IsFound (TooLong limit) ending bytes = EndsNowhere ending bytes
IsFound (Waits search) ending bytes = KnowsAll search ending bytes

-- where it was found in so many bytes
abbrev pub IsWithin : Found → Ending → ℕ → Type 0
IsWithin (Ends search len) ending count = (0 < len) × (len ≤ count) × (len ≤ limit_of ending) × (search.text ≤ len)
IsWithin (TooLong limit) ending count = (limit ≡ limit_of ending) × (limit ≤ count)
IsWithin (Waits search) ending count = (search.seen ≡ count) × (count < limit_of ending)
