-- The default scripts, each with its name and its text, in load order.
use Rattle.std.specs.Prelude.{ℕ, List, [], ◌∷◌}
use Rattle.zk_scripts.specs.declared.conn.TheConstants as conn
use Rattle.zk_scripts.specs.declared.dns.TheConstants as dns
use Rattle.zk_scripts.specs.declared.http.TheConstants as http

unfoldable pub default_texts : List (List ℕ × List ℕ)
default_texts = (conn.NAME.now, conn.TEXT.now) ∷ (dns.NAME.now, dns.TEXT.now) ∷ (http.NAME.now, http.TEXT.now) ∷ []
