-- Both sides of a reader of HTTP.
use Rattle.std.proofs.Common.{◌≡◌, ◌+◌, ◌≤◌, Bool, true, false, ◌||◌, List, [], ◌∷◌, ◌++◌, length, drop, Option, Some, None, OnOk, OnErr, IfOk, Result, Ok, Err, refl, sym, ap, subst, ◌∙◌, arith}
use Rattle.std.specs.Option.{IfNone}
use Rattle.std.proofs.lemmas.Bool.{true≢false}
use Rattle.std.proofs.lemmas.List.{append-nil, drop-append-le, length-append}
use Rattle.zk_base.specs.ByteQueue.{bytes_of}
use Rattle.zk_base.specs.Places.{Place, bytes_before_gap}
use Rattle.zk_base.specs.declared.network.Side.{Side}
use Rattle.zk_base.specs.declared.network.Side.TheVariants.{Orig, Resp}
use Rattle.zk_http.specs.declared.http.Http.{Http}
use Rattle.zk_http.specs.declared.units.«Unit».{«Unit» as HttpUnit}
use Rattle.zk_http.specs.Growth.{Grows}
use Rattle.zk_base.specs.Sides.{other}
use Rattle.zk_http.specs.Places.{Both, Stream, of_side}
use Rattle.zk_http.specs.Standing.{StandsFor, is_told, used_of}
use Rattle.zk_http.specs.Units.{next, unread as not_read}
use Rattle.zk_http.proofs.StandingLaws.{look_within, stand_as_they_grow}
use Rattle.zk_units.specs.declared.http_reader.HttpReader.{HttpReader}
use Rattle.zk_units.specs.declared.unread.Unread.{Unread}
use Rattle.zk_units.specs.HttpTurns.{Fits, HasNone, IsUnread, KeepsOther, ReadsOn}
use Rattle.zk_units.specs.Standing.{HttpStands, NextIs, behind, ended_by, with_stream}
use Rattle.zk_units.specs.Unread.{places_of}

-- what the reader keeps of the other side
pub unread_kept : (side : Side) (old new : Http) (u : Unread) (stream : Stream) → KeepsOther side old new → IsUnread (other side) old u stream → IsUnread (other side) new u stream
unread_kept side old new u stream keeps is = record {
  places_are = is.places_are ∙ ap (λ n. drop n stream.places) (sym keeps.used);
  ended_is = is.ended_is;
  last = λ told. is.last (sym keeps.told ∙ told);
}

pub fits_kept : (side : Side) (old new : Http) (u : Unread) → KeepsOther side old new → Fits (other side) old u → Fits (other side) new u
fits_kept side old new u keeps fits = record { seen = omega (arith, fits.seen, keeps.seen); front = omega (arith, fits.front, keeps.used) }

pub ok_or_err : {A E : Type 0} (P : Type 0) (Q : A → Type 0) (r : Result A E) → IfOk r Q → OnErr r P → ((a : A) → Q a → P) → P
ok_or_err P Q (Ok a) ok err then = then a ok
ok_or_err P Q (Err e) ok err then = err

pub if_both : {A E : Type 0} {P Q R : A → Type 0} (r : Result A E) → IfOk r P → IfOk r Q → ((a : A) → P a → Q a → R a) → IfOk r R
if_both (Ok a) p q then = then a p q
if_both (Err e) p q then = tt

next_found : (side : Side) (old new : Http) (u u' : Unread) (found : Option HttpUnit) (streams : Both Stream) (units : Both (List HttpUnit)) → ReadsOn side old new u u' found
    → IfNone found (HasNone side old u u') → StandsFor old streams units → IsUnread side old u (of_side side streams) → next side streams units ≡ found
next_found side old new u u' None streams units reads none stands is = none.none streams units stands is
next_found side old new u u' (Some one) streams units reads none stands is = reads.next_is streams units stands is

few_left : (side : Side) (old : Http) (u u' : Unread) (found : Option HttpUnit) (streams : Both Stream) (units : Both (List HttpUnit))
    → IfNone found (HasNone side old u u') → StandsFor old streams units → IsUnread side old u (of_side side streams) → found ≡ None → length (bytes_of u'.bytes) ≤ 65536
few_left side old u u' None streams units none stands is e = none.few streams units stands is
few_left side old u u' (Some one) streams units none stands is e = absurd (some_none e)
  where
    some_none : {A : Type 0} {x : A} → Some x ≡ None → ⊥
    some_none e = cc

left_over : (side : Side) (old : Http) (u u' : Unread) (found : Option HttpUnit) (streams : Both Stream) (units : Both (List HttpUnit))
    → IfNone found (HasNone side old u u') → StandsFor old streams units → IsUnread side old u (of_side side streams) → found ≡ None → places_of u' ≡ not_read side streams units
left_over side old u u' None streams units none stands is e = none.left streams units stands is
left_over side old u u' (Some one) streams units none stands is e = absurd (some_none e)
  where
    some_none : {A : Type 0} {x : A} → Some x ≡ None → ⊥
    some_none e = cc

pub next_orig : (a b : HttpReader) (found : Option HttpUnit) → b.resp ≡ a.resp → ReadsOn Orig a.http b.http a.orig b.orig found → IfNone found (HasNone Orig a.http a.orig b.orig)
    → (streams : Both Stream) (units : Both (List HttpUnit)) → HttpStands a streams units → NextIs Orig a b found streams units
next_orig a b found same reads none streams units is = record {
  next_is = next_found Orig a.http b.http a.orig b.orig found streams units reads none is.stands is.orig;
  stands = record {
    stands = reads.stands streams units is.stands is.orig;
    orig = reads.«unread» streams units is.stands is.orig;
    resp = subst (λ u. IsUnread Resp b.http u streams.resp) (sym same) (unread_kept Orig a.http b.http a.resp streams.resp reads.other is.resp);
  };
  few = few_left Orig a.http a.orig b.orig found streams units none is.stands is.orig;
  left = left_over Orig a.http a.orig b.orig found streams units none is.stands is.orig;
  other = same;
}

pub next_resp : (a b : HttpReader) (found : Option HttpUnit) → b.orig ≡ a.orig → ReadsOn Resp a.http b.http a.resp b.resp found → IfNone found (HasNone Resp a.http a.resp b.resp)
    → (streams : Both Stream) (units : Both (List HttpUnit)) → HttpStands a streams units → NextIs Resp a b found streams units
next_resp a b found same reads none streams units is = record {
  next_is = next_found Resp a.http b.http a.resp b.resp found streams units reads none is.stands is.resp;
  stands = record {
    stands = reads.stands streams units is.stands is.resp;
    resp = reads.«unread» streams units is.stands is.resp;
    orig = subst (λ u. IsUnread Orig b.http u streams.orig) (sym same) (unread_kept Resp a.http b.http a.orig streams.orig reads.other is.orig);
  };
  few = few_left Resp a.http a.resp b.resp found streams units none is.stands is.resp;
  left = left_over Resp a.http a.resp b.resp found streams units none is.stands is.resp;
  other = same;
}

-- ---- what is given

run-grows : (p q : List Place) → length (bytes_before_gap p) ≤ length (bytes_before_gap (p ++ q))
run-grows [] q = omega arith
run-grows (None ∷ p) q = omega arith
run-grows (Some byte ∷ p) q = omega (arith, run-grows p q)

pub fits_grown : (side : Side) (reader : Http) (u u' : Unread) (more : List Place) → Fits side reader u → places_of u' ≡ places_of u ++ more → u'.front ≡ u.front + length more → Fits side reader u'
fits_grown side reader u u' more fits places front = record {
  seen = omega (arith, fits.seen, run-grows (places_of u) more, ap (λ l. length (bytes_before_gap l)) places);
  front = omega (arith, fits.front, front, ap length places, length-append (places_of u) more);
}

pub fits_still : (side : Side) (reader : Http) (u u' : Unread) → Fits side reader u → (places_of u' ≡ places_of u) × (u'.front ≡ u.front) → Fits side reader u'
fits_still side reader u u' fits same = record {
  seen = omega (arith, fits.seen, ap (λ l. length (bytes_before_gap l)) same.0);
  front = omega (arith, fits.front, same.1, ap length same.0);
}

grows_more : (stream : Stream) (more : List Place) → (stream.ended ≡ true → more ≡ []) → Grows stream (behind stream more)
grows_more stream more none = record { behind = more; places = refl; ended = λ e. (none e, e) }

stays : (stream : Stream) → Grows stream stream
stays stream = record { behind = []; places = sym (append-nil stream.places); ended = λ e. (refl, e) }

unread_grown : (side : Side) (reader : Http) (u u' : Unread) (stream : Stream) (more : List Place) → (stream.ended ≡ true → more ≡ []) → used_of side reader ≤ length stream.places
    → (is_told side reader ≡ true → stream.ended ≡ true) → IsUnread side reader u stream → places_of u' ≡ places_of u ++ more → u'.ended ≡ u.ended → IsUnread side reader u' (behind stream more)
unread_grown side reader u u' stream more none within told is places ended = record {
  places_are = places ∙ ap (λ l. l ++ more) is.places_are ∙ sym (drop-append-le (used_of side reader) stream.places more within);
  ended_is = ended ∙ is.ended_is;
  last = λ is_told.
      let same : places_of u' ≡ places_of u = places ∙ ap (λ l. places_of u ++ l) (none (told is_told)) ∙ append-nil (places_of u) in
      omega (arith, is.last is_told, ap length same, ap (λ l. length (bytes_before_gap l)) same);
}

pub grown_orig : (a b : HttpReader) (more : List Place) → b.http ≡ a.http → b.resp ≡ a.resp → places_of b.orig ≡ places_of a.orig ++ more → b.orig.ended ≡ a.orig.ended
    → (streams : Both Stream) (units : Both (List HttpUnit)) → (streams.orig.ended ≡ true → more ≡ []) → HttpStands a streams units
    → HttpStands b (with_stream Orig (behind streams.orig more) streams) units
grown_orig a b more http same places ended streams units none is =
    let looks = look_within a.http streams units Orig is.stands in
    record {
      stands = subst (λ h. StandsFor h (with_stream Orig (behind streams.orig more) streams) units) (sym http)
          (stand_as_they_grow a.http streams (with_stream Orig (behind streams.orig more) streams) units is.stands (each streams none));
      orig = subst (λ h. IsUnread Orig h b.orig (behind streams.orig more)) (sym http) (unread_grown Orig a.http a.orig b.orig streams.orig more none looks.0 looks.2 is.orig places ended);
      resp = subst (λ h. IsUnread Resp h b.resp streams.resp) (sym http) (subst (λ u. IsUnread Resp a.http u streams.resp) (sym same) is.resp);
    }
  where
    each : (streams : Both Stream) → (streams.orig.ended ≡ true → more ≡ []) → (side : Side) → Grows (of_side side streams) (of_side side (with_stream Orig (behind streams.orig more) streams))
    each streams none Orig = grows_more streams.orig more none
    each streams none Resp = stays streams.resp

pub grown_resp : (a b : HttpReader) (more : List Place) → b.http ≡ a.http → b.orig ≡ a.orig → places_of b.resp ≡ places_of a.resp ++ more → b.resp.ended ≡ a.resp.ended
    → (streams : Both Stream) (units : Both (List HttpUnit)) → (streams.resp.ended ≡ true → more ≡ []) → HttpStands a streams units
    → HttpStands b (with_stream Resp (behind streams.resp more) streams) units
grown_resp a b more http same places ended streams units none is =
    let looks = look_within a.http streams units Resp is.stands in
    record {
      stands = subst (λ h. StandsFor h (with_stream Resp (behind streams.resp more) streams) units) (sym http)
          (stand_as_they_grow a.http streams (with_stream Resp (behind streams.resp more) streams) units is.stands (each streams none));
      resp = subst (λ h. IsUnread Resp h b.resp (behind streams.resp more)) (sym http) (unread_grown Resp a.http a.resp b.resp streams.resp more none looks.0 looks.2 is.resp places ended);
      orig = subst (λ h. IsUnread Orig h b.orig streams.orig) (sym http) (subst (λ u. IsUnread Orig a.http u streams.orig) (sym same) is.orig);
    }
  where
    each : (streams : Both Stream) → (streams.resp.ended ≡ true → more ≡ []) → (side : Side) → Grows (of_side side streams) (of_side side (with_stream Resp (behind streams.resp more) streams))
    each streams none Orig = stays streams.orig
    each streams none Resp = grows_more streams.resp more none

-- ---- an end

or_true : (b : Bool) → (b || true) ≡ true
or_true true = refl
or_true false = refl

ends : (stream : Stream) → Grows stream (ended_by stream true)
ends stream = record { behind = []; places = sym (append-nil stream.places); ended = λ e. (refl, or_true stream.ended) }

unread_ended : (side : Side) (reader : Http) (u u' : Unread) (stream : Stream) → IsUnread side reader u stream → places_of u' ≡ places_of u → u'.ended ≡ true → IsUnread side reader u' (ended_by stream true)
unread_ended side reader u u' stream is places ended = record {
  places_are = places ∙ is.places_are;
  ended_is = ended ∙ sym (or_true stream.ended);
  last = λ told. omega (arith, is.last told, ap length places, ap (λ l. length (bytes_before_gap l)) places);
}

pub ended_orig : (a b : HttpReader) → b.http ≡ a.http → b.resp ≡ a.resp → places_of b.orig ≡ places_of a.orig → b.orig.ended ≡ true
    → (streams : Both Stream) (units : Both (List HttpUnit)) → HttpStands a streams units → HttpStands b (with_stream Orig (ended_by streams.orig true) streams) units
ended_orig a b http same places ended streams units is = record {
  stands = subst (λ h. StandsFor h (with_stream Orig (ended_by streams.orig true) streams) units) (sym http)
      (stand_as_they_grow a.http streams (with_stream Orig (ended_by streams.orig true) streams) units is.stands (each streams));
  orig = subst (λ h. IsUnread Orig h b.orig (ended_by streams.orig true)) (sym http) (unread_ended Orig a.http a.orig b.orig streams.orig is.orig places ended);
  resp = subst (λ h. IsUnread Resp h b.resp streams.resp) (sym http) (subst (λ u. IsUnread Resp a.http u streams.resp) (sym same) is.resp);
}
  where
    each : (streams : Both Stream) (side : Side) → Grows (of_side side streams) (of_side side (with_stream Orig (ended_by streams.orig true) streams))
    each streams Orig = ends streams.orig
    each streams Resp = stays streams.resp

pub ended_resp : (a b : HttpReader) → b.http ≡ a.http → b.orig ≡ a.orig → places_of b.resp ≡ places_of a.resp → b.resp.ended ≡ true
    → (streams : Both Stream) (units : Both (List HttpUnit)) → HttpStands a streams units → HttpStands b (with_stream Resp (ended_by streams.resp true) streams) units
ended_resp a b http same places ended streams units is = record {
  stands = subst (λ h. StandsFor h (with_stream Resp (ended_by streams.resp true) streams) units) (sym http)
      (stand_as_they_grow a.http streams (with_stream Resp (ended_by streams.resp true) streams) units is.stands (each streams));
  resp = subst (λ h. IsUnread Resp h b.resp (ended_by streams.resp true)) (sym http) (unread_ended Resp a.http a.resp b.resp streams.resp is.resp places ended);
  orig = subst (λ h. IsUnread Orig h b.orig streams.orig) (sym http) (subst (λ u. IsUnread Orig a.http u streams.orig) (sym same) is.orig);
}
  where
    each : (streams : Both Stream) (side : Side) → Grows (of_side side streams) (of_side side (with_stream Resp (ended_by streams.resp true) streams))
    each streams Orig = stays streams.orig
    each streams Resp = ends streams.resp

-- ---- nothing yet

pub unread_new : (side : Side) (reader : Http) (u : Unread) → used_of side reader ≡ 0 → is_told side reader ≡ false → places_of u ≡ [] → u.ended ≡ false
    → IsUnread side reader u (record { places = []; ended = false })
unread_new side reader u used told places ended = record {
  places_are = places ∙ sym (ap (λ n. drop n []) used);
  ended_is = ended;
  last = λ is. absurd (true≢false (sym is ∙ told));
}

pub on_ok : {A E P Q : Type 0} (r : Result A E) → OnOk r P → (P → Q) → OnOk r Q
on_ok (Ok a) p then = then p
on_ok (Err e) p then = tt

pub ok_or_err_on : {A E P Q : Type 0} (R : Type 0) (r : Result A E) → OnOk r P → (P → R) → OnErr r Q → (Q → R) → R
ok_or_err_on R (Ok a) p first q second = first p
ok_or_err_on R (Err e) p first q second = second q

pub on_both : {A E P Q R : Type 0} (r : Result A E) → OnOk r P → OnOk r Q → (P → Q → R) → OnOk r R
on_both (Ok a) p q then = then p q
on_both (Err e) p q then = tt

-- ---- by the side that is asked for

pub grown_at_orig : (side : Side) (a b : HttpReader) (more : List Place) → side ≡ Orig → b.http ≡ a.http → b.resp ≡ a.resp → places_of b.orig ≡ places_of a.orig ++ more → b.orig.ended ≡ a.orig.ended
    → (streams : Both Stream) (units : Both (List HttpUnit)) → ((of_side side streams).ended ≡ true → more ≡ []) → HttpStands a streams units
    → HttpStands b (with_stream side (behind (of_side side streams) more) streams) units
grown_at_orig side a b more is http same places ended streams units none stands =
    subst (λ s. HttpStands b (with_stream s (behind (of_side s streams) more) streams) units) (sym is)
    (grown_orig a b more http same places ended streams units (λ e. none (ap (λ s. (of_side s streams).ended) is ∙ e)) stands)

pub grown_at_resp : (side : Side) (a b : HttpReader) (more : List Place) → side ≡ Resp → b.http ≡ a.http → b.orig ≡ a.orig → places_of b.resp ≡ places_of a.resp ++ more → b.resp.ended ≡ a.resp.ended
    → (streams : Both Stream) (units : Both (List HttpUnit)) → ((of_side side streams).ended ≡ true → more ≡ []) → HttpStands a streams units
    → HttpStands b (with_stream side (behind (of_side side streams) more) streams) units
grown_at_resp side a b more is http same places ended streams units none stands =
    subst (λ s. HttpStands b (with_stream s (behind (of_side s streams) more) streams) units) (sym is)
    (grown_resp a b more http same places ended streams units (λ e. none (ap (λ s. (of_side s streams).ended) is ∙ e)) stands)

pub ended_at_orig : (side : Side) (a b : HttpReader) → side ≡ Orig → b.http ≡ a.http → b.resp ≡ a.resp → places_of b.orig ≡ places_of a.orig → b.orig.ended ≡ true
    → (streams : Both Stream) (units : Both (List HttpUnit)) → HttpStands a streams units → HttpStands b (with_stream side (ended_by (of_side side streams) true) streams) units
ended_at_orig side a b is http same places ended streams units stands =
    subst (λ s. HttpStands b (with_stream s (ended_by (of_side s streams) true) streams) units) (sym is) (ended_orig a b http same places ended streams units stands)

pub ended_at_resp : (side : Side) (a b : HttpReader) → side ≡ Resp → b.http ≡ a.http → b.orig ≡ a.orig → places_of b.resp ≡ places_of a.resp → b.resp.ended ≡ true
    → (streams : Both Stream) (units : Both (List HttpUnit)) → HttpStands a streams units → HttpStands b (with_stream side (ended_by (of_side side streams) true) streams) units
ended_at_resp side a b is http same places ended streams units stands =
    subst (λ s. HttpStands b (with_stream s (ended_by (of_side s streams) true) streams) units) (sym is) (ended_resp a b http same places ended streams units stands)

pub next_at_orig : (side : Side) (a b : HttpReader) (found : Option HttpUnit) → side ≡ Orig → b.resp ≡ a.resp → ReadsOn Orig a.http b.http a.orig b.orig found → IfNone found (HasNone Orig a.http a.orig b.orig)
    → (streams : Both Stream) (units : Both (List HttpUnit)) → HttpStands a streams units → NextIs side a b found streams units
next_at_orig side a b found is same reads none streams units stands = subst (λ s. NextIs s a b found streams units) (sym is) (next_orig a b found same reads none streams units stands)

pub next_at_resp : (side : Side) (a b : HttpReader) (found : Option HttpUnit) → side ≡ Resp → b.orig ≡ a.orig → ReadsOn Resp a.http b.http a.resp b.resp found → IfNone found (HasNone Resp a.http a.resp b.resp)
    → (streams : Both Stream) (units : Both (List HttpUnit)) → HttpStands a streams units → NextIs side a b found streams units
next_at_resp side a b found is same reads none streams units stands = subst (λ s. NextIs s a b found streams units) (sym is) (next_resp a b found same reads none streams units stands)

pub each_side : (P : Side → Type 0) → P Orig → P Resp → (side : Side) → P side
each_side P orig resp Orig = orig
each_side P orig resp Resp = resp
