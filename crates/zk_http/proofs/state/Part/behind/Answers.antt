use Rattle.std.proofs.Common.{refl, sym, subst}
use Rattle.zk_http.specs.Starts.{IsStart}
use Rattle.zk_http.specs.declared.state.Part.TheVariants.{Size}
use Rattle.zk_http.proofs.state.Part.behind.Goals as goal

pub returns-in-Chunked-clause-start : goal.returns-in-Chunked-clause-start
returns-in-Chunked-clause-start c =
    subst (λ body. IsStart body (Size c.new.result)) (sym c.in-Chunked.is) (c.new.result, refl, c.new.ensures.nothing, c.new.ensures.knows _)
