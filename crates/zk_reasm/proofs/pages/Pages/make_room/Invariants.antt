use Rattle.std.proofs.Common.{◌≡◌, ℕ, ◌/◌, ◌<◌, ◌≤◌, IsSome}
use Rattle.zk_reasm.specs.declared.page.TheConstants.{PAGE_LEN}
use Rattle.zk_reasm.specs.Pages.{byte_paged, page_of}
use Rattle.zk_reasm.proofs.pages.Pages.make_room.Given as goal

-- the pages before this key are there, and the bytes stay
abbrev pub invariant-loop-key : goal.invariant-loop-key
invariant-loop-key l = record {
  same : (at : ℕ) → byte_paged l.self at ≡ byte_paged l.initial.self at;
  made : (at : ℕ) → l.from ≤ at → at / PAGE_LEN < l.key-counter → IsSome (page_of l.self at);
}
