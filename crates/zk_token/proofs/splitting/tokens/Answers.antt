use Rattle.std.proofs.Common.{Ok, Err}
use Rattle.zk_token.proofs.TokenLaws.{exact}
use Rattle.zk_token.proofs.splitting.tokens.Goals as goal

pub returns-clause-read : goal.returns-clause-read
returns-clause-read c = λ tokens. exact c.args.text.now (Ok tokens)

pub returns-clause-refused : goal.returns-clause-refused
returns-clause-refused c = λ fault. exact c.args.text.now (Err fault)
