-- The table after the instance of one slot changed.
use Rattle.std.proofs.Common.{pos, ◌+ℤ◌, ◌≡◌, ◌≢◌, ℕ, ◌<◌, ◌≤◌, Bool, true, false, cond, List, length, get_or, Option, Some, None, refl, sym, ap, subst, ◌∙◌, arith, ⊎_elim}
use Rattle.std.specs.BTreeMap as btree
use Rattle.std.specs.Int.{saturate_signed, w64}
use Rattle.std.specs.Prelude.{int_le, Result, Ok, Err, OnOk, is_err}
use Rattle.std.specs.Option.{option_map}
use Rattle.std.specs.Ordering.{nat_cmp}
use Rattle.std.proofs.lemmas.Bool.{cases_eq, cases_lt, true≢false}
use Rattle.std.proofs.lemmas.Grind.{common_steps}
use Rattle.std.proofs.lemmas.List.{get_or-set_same, get_or-set_other}
use Rattle.slab.specs.Slab.{Slab, get, with_value}
use Rattle.zk_base.specs.declared.network.Side.{Side}
use Rattle.zk_base.specs.declared.network.Side.TheVariants.{Orig, Resp}
use Rattle.zk_base.specs.declared.time.Moment.{Moment}
use Rattle.zk_conn.specs.declared.conns.Conns.{Conns}
use Rattle.zk_conn.specs.declared.conns.Touched.{Touched}
use Rattle.zk_conn.specs.declared.half.Half.{Half}
use Rattle.zk_conn.specs.declared.instance.Instance.{Instance}
use Rattle.zk_conn.specs.declared.half.StreamEnd.{StreamEnd}
use Rattle.zk_conn.specs.declared.key.Endpoint.{Endpoint}
use Rattle.zk_conn.specs.declared.key.Key.{Key}
use Rattle.zk_conn.specs.declared.removals.Filing.{Filing}
use Rattle.zk_conn.specs.declared.view.L4View.{L4View}
use Rattle.zk_conn.specs.Holds.{Follows, half_after, originator_in, removal_of, touched_between}
use Rattle.zk_conn.specs.Instance.{same_side, wait}
use Rattle.zk_conn.specs.Segment.{is_tcp}
use Rattle.zk_conn.specs.declared.removals.Removals.{Removals}
use Rattle.zk_conn.specs.Removals.{filed_in, filing_at, filing_of, HasPlace, IsIndex, IsIndexOf}
use Rattle.zk_conn.specs.Table.{slot_in, Changes, SameFacts, Files, Hastens, Tells}
use Rattle.zk_conn.specs.Told.{Told, Front}
use Rattle.zk_conn.proofs.MomentLemmas.{int_le-refl}

-- a slot that has a value is one of the list
pub slot_within : (slots : Slab Instance) (slot : ℕ) (was : Instance) → get slots slot ≡ Some was → slot < length slots.slots
slot_within slots slot was there = ⊎_elim (λ lt. lt) (λ ge. absurd (none_some (get_or slots.slots slot None) (grind (arith, common_steps, ge)) there)) (cases_lt slot (length slots.slots))
  where
    none_some : (o : Option Instance) → o ≡ None → o ≡ Some was → ⊥
    none_some o none some = cc

pub with_value-here : (slots : Slab Instance) (slot : ℕ) (was is : Instance) → get slots slot ≡ Some was → get (with_value slots slot is) slot ≡ Some is
with_value-here slots slot was is there = get_or-set_same slots.slots slot (Some is) None (slot_within slots slot was there)

pub with_value-other : (slots : Slab Instance) (slot other : ℕ) (is : Instance) → other ≢ slot → get (with_value slots slot is) other ≡ get slots other
with_value-other slots slot other is apart = get_or-set_other slots.slots slot other (Some is) None apart

no_filing : {o : Option Filing} {f : Filing} → o ≡ Some f → o ≡ None → ⊥
no_filing some none = cc

past_end : (firsts : List (Option Filing)) (slot : ℕ) → length firsts ≤ slot → get_or firsts slot None ≡ None
past_end firsts slot past = grind (arith, common_steps, past)

-- the index has a place for an instance of the table
pub has_place : (slots : Slab Instance) (removals : Removals) (slot : ℕ) (was : Instance) → get slots slot ≡ Some was → IsIndexOf slots removals → HasPlace removals slot
has_place slots removals slot was there index = (
  ⊎_elim (λ within. within) (λ past. absurd (no_filing filed (past_end removals.filings.items slot past))) (cases_lt slot (length removals.filings.items)),
  ⊎_elim (λ within. within) (λ past. absurd (no_filing filed (let tree = index.index in tree.beyond slot past))) (cases_lt slot (length removals.firsts.items)),
)
  where
    filed : filed_in removals slot ≡ Some (filing_of slot was)
    filed = index.filed slot ∙ ap (option_map (filing_of slot)) there

-- the index in which a slot's instance was filed
pub index_filed : (old new : Slab Instance) (before after : Removals) (slot : ℕ) (is : Instance) → get new slot ≡ Some is
    → ((other : ℕ) → other ≢ slot → get new other ≡ get old other) → (IsIndex before → IsIndex after) → (HasPlace before slot → filed_in after slot ≡ Some (filing_of slot is))
    → ((other : ℕ) → other ≢ slot → filed_in after other ≡ filed_in before other) → (IsIndexOf old before → HasPlace before slot) → IsIndexOf old before → IsIndexOf new after
index_filed old new before after slot is there others kept filed others_filed place index = record {
  index = kept index.index;
  filed = λ other. ⊎_elim
      (λ here. subst (λ s. filed_in after s ≡ filing_at new s) (sym here) (filed (place index) ∙ sym (ap (option_map (filing_of slot)) there)))
      (λ apart. others_filed other apart ∙ index.filed other ∙ sym (ap (option_map (filing_of other)) (others other apart)))
      (cases_eq other slot);
}

-- the index that files nothing any more for a slot
pub index_forgotten : (old new : Slab Instance) (before after : Removals) (slot : ℕ) → get new slot ≡ None → ((other : ℕ) → other ≢ slot → get new other ≡ get old other)
    → (IsIndex before → IsIndex after) → filed_in after slot ≡ None → ((other : ℕ) → other ≢ slot → filed_in after other ≡ filed_in before other) → IsIndexOf old before → IsIndexOf new after
index_forgotten old new before after slot gone others kept forgotten others_filed index = record {
  index = kept index.index;
  filed = λ other. ⊎_elim
      (λ here. subst (λ s. filed_in after s ≡ filing_at new s) (sym here) (forgotten ∙ sym (ap (option_map (filing_of slot)) gone)))
      (λ apart. others_filed other apart ∙ index.filed other ∙ sym (ap (option_map (filing_of other)) (others other apart)))
      (cases_eq other slot);
}

-- a slot has one instance
pub one_value : {o : Option Instance} {was now : Instance} → o ≡ Some was → o ≡ Some now → now ≡ was
one_value first second = cc

-- the table in which the instance of a slot was written
pub changes_written : (old new : Conns) (slot : ℕ) (was is : Instance) → get old.slots slot ≡ Some was → new.slots ≡ with_value old.slots slot is
    → is.key ≡ was.key → is.number ≡ was.number → new.keys ≡ old.keys → new.numbers ≡ old.numbers → new.begun ≡ old.begun → new.recent ≡ old.recent
    → (IsIndexOf old.slots old.removals → IsIndexOf new.slots new.removals) → Changes old new slot was is
changes_written old new slot was is there written key_is number_is same_keys same_numbers same_begun same_recent index = record {
  is_there = ap (λ s. get s slot) written ∙ with_value-here old.slots slot was is there;
  others = λ other apart. ap (λ s. get s other) written ∙ with_value-other old.slots slot other is apart;
  key_is = key_is;
  number_is = number_is;
  keys_are = λ key. ap (λ m. slot_in m key) same_keys;
  numbers_are = λ number. ap (λ m. btree.get nat_cmp m number) same_numbers;
  begun_is = same_begun;
  recent_is = same_recent;
  index = index;
}

-- the instance of a slot that was filed at its removal moment
pub files_written : (old new : Conns) (slot : ℕ) (was now is : Instance) → get old.slots slot ≡ Some was → get old.slots slot ≡ Some now → SameFacts now is
    → is.filed ≡ removal_of now → new.slots ≡ with_value old.slots slot is → new.keys ≡ old.keys → new.numbers ≡ old.numbers → new.begun ≡ old.begun → new.recent ≡ old.recent
    → (IsIndex old.removals → IsIndex new.removals) → (HasPlace old.removals slot → filed_in new.removals slot ≡ Some (filing_of slot is))
    → ((other : ℕ) → other ≢ slot → filed_in new.removals other ≡ filed_in old.removals other) → Files old new slot was
files_written old new slot was now is there seen same filed written same_keys same_numbers same_begun same_recent kept refiled others_filed =
    subst (Files old new slot) (one_value there seen)
    (record {
      is = is;
      written = written;
      changes = changes_written old new slot now is seen written same.key_is same.number_is same_keys same_numbers same_begun same_recent
          (index_filed old.slots new.slots old.removals new.removals slot is (ap (λ s. get s slot) written ∙ with_value-here old.slots slot now is seen)
          (λ other apart. ap (λ s. get s other) written ∙ with_value-other old.slots slot other is apart) kept refiled others_filed
          (has_place old.slots old.removals slot now seen));
      same = same;
      filed = filed;
    })

-- instances that know the same are removed at the same moment
pub removal_of-same : (was is : Instance) → SameFacts was is → removal_of is ≡ removal_of was
unfolding removal_of
removal_of-same was is same =
    ap (λ m. removal_in m is.key is.orig is.resp) same.last_is
    ∙ ap (λ k. removal_in was.last k is.orig is.resp) same.key_is
    ∙ ap (λ h. removal_in was.last was.key h is.resp) same.orig_is
    ∙ ap (λ h. removal_in was.last was.key was.orig h) same.resp_is
  where
    removal_in : Moment → Key → Half → Half → Moment
    removal_in last key orig resp = record { 0 = saturate_signed w64 (last.0 +ℤ pos (wait (is_tcp key.proto) orig.end resp.end)) }

-- an instance that was filed at its removal moment
pub hastens_filed : (old new : Conns) (slot : ℕ) (was : Instance) → Files old new slot was → Hastens old new slot was
hastens_filed old new slot was files = record {
  is = files.is;
  changes = files.changes;
  same = files.same;
  filed = subst (λ (m : Moment). int_le m.0 (removal_of files.is).0 ≡ true) (removal_of-same was files.is files.same ∙ sym files.filed) (int_le-refl (removal_of files.is).0);
}

-- the index is right where each slot is filed as before
pub index_same : (old new : Slab Instance) (removals : Removals) → ((slot : ℕ) → filing_at new slot ≡ filing_at old slot) → IsIndexOf old removals → IsIndexOf new removals
index_same old new removals same index = record {
  index = index.index;
  filed = λ slot. index.filed slot ∙ sym (same slot);
}

-- where the instance of a slot was written, each slot is filed as before if the instance is
filings_written : (old : Slab Instance) (slot : ℕ) (was is : Instance) → get old slot ≡ Some was → is.filed ≡ was.filed → is.number ≡ was.number
    → (other : ℕ) → filing_at (with_value old slot is) other ≡ filing_at old other
filings_written old slot was is there filed number other = ⊎_elim
    (λ here. subst (λ s. filing_at (with_value old slot is) s ≡ filing_at old s) (sym here)
    (ap (option_map (filing_of slot)) (with_value-here old slot was is there)
    ∙ ap Some (ap (λ m. record { at = m; number = is.number; slot = slot }) filed ∙ ap (λ n. record { at = was.filed; number = n; slot = slot }) number)
    ∙ sym (ap (option_map (filing_of slot)) there)))
    (λ apart. ap (option_map (filing_of other)) (with_value-other old slot other is apart))
    (cases_eq other slot)

-- the tables before and after an instance had an event and was filed anew
follows_same : (was mid is : Instance) (event : Told) → Follows was mid event → SameFacts mid is → Follows was is event
follows_same was mid is event follows same = record {
  key_is = same.key_is ∙ follows.key_is;
  number_is = same.number_is ∙ follows.number_is;
  originator_is = same.originator_is ∙ follows.originator_is;
  responder_is = same.responder_is ∙ follows.responder_is;
  start_is = same.start_is ∙ follows.start_is;
  last_is = same.last_is ∙ follows.last_is;
  orig_is = same.orig_is ∙ follows.orig_is;
  resp_is = same.resp_is ∙ follows.resp_is;
  history_is = same.history_is ∙ follows.history_is;
}

changes_then : (old mid new : Conns) (slot : ℕ) (was between is : Instance) → Changes old mid slot was between → Changes mid new slot between is → Changes old new slot was is
changes_then old mid new slot was between is first second = record {
  is_there = second.is_there;
  others = λ other apart. second.others other apart ∙ first.others other apart;
  key_is = second.key_is ∙ first.key_is;
  number_is = second.number_is ∙ first.number_is;
  keys_are = λ key. second.keys_are key ∙ first.keys_are key;
  numbers_are = λ number. second.numbers_are number ∙ first.numbers_are number;
  begun_is = second.begun_is ∙ first.begun_is;
  recent_is = second.recent_is ∙ first.recent_is;
  index = λ index. second.index (first.index index);
}

-- the table in which the instance of a slot had an event
written_changes : (old mid : Conns) (slot : ℕ) (now between : Instance) (event : Told) → get old.slots slot ≡ Some now → Follows now between event
    → between.filed ≡ now.filed → mid.slots ≡ with_value old.slots slot between → mid.keys ≡ old.keys → mid.numbers ≡ old.numbers → mid.removals ≡ old.removals
    → mid.begun ≡ old.begun → mid.recent ≡ old.recent → Changes old mid slot now between
written_changes old mid slot now between event seen follows filed written same_keys same_numbers same_removals same_begun same_recent =
    changes_written old mid slot now between seen written follows.key_is follows.number_is same_keys same_numbers same_begun same_recent
    (λ index. subst (λ r. IsIndexOf mid.slots r) (sym same_removals)
    (index_same old.slots mid.slots old.removals
    (λ other. ap (λ s. filing_at s other) written ∙ filings_written old.slots slot now between seen filed follows.number_is other) index))

-- an event of an instance, which is then filed anew
pub tells_hastened : (old mid new : Conns) (slot : ℕ) (was now between : Instance) (event : Told) → get old.slots slot ≡ Some was → get old.slots slot ≡ Some now
    → Follows now between event → between.filed ≡ now.filed → mid.slots ≡ with_value old.slots slot between → mid.keys ≡ old.keys → mid.numbers ≡ old.numbers
    → mid.removals ≡ old.removals → mid.begun ≡ old.begun → mid.recent ≡ old.recent → ((w : Instance) → get mid.slots slot ≡ Some w → Hastens mid new slot w) → Tells old new slot was event
tells_hastened old mid new slot was now between event there seen follows filed written same_keys same_numbers same_removals same_begun same_recent hastens =
    let first = written_changes old mid slot now between event seen follows filed written same_keys same_numbers same_removals same_begun same_recent in
    let second = hastens between first.is_there in
    subst (λ w. Tells old new slot w event) (one_value there seen)
    (record {
      is = second.is;
      changes = changes_then old mid new slot now between second.is first second.changes;
      follows = follows_same now between second.is event follows second.same;
      filed = λ _. second.filed;
    })

end_of_front : (o : Endpoint) (side : Side) (half : Half) (key : Key) (of : Side) (front : ℕ) → (half_after o side half (Front key of front)).end ≡ half.end
end_of_front o side half key of front = by_cases (same_side of side)
  where
    by_cases : (b : Bool) → (let after : Half = cond b (record half { front = front }) half in after.end) ≡ half.end
    by_cases true = refl
    by_cases false = refl

removal_of-front : (was is : Instance) (key : Key) (of : Side) (front : ℕ) → Follows was is (Front key of front) → removal_of is ≡ removal_of was
unfolding removal_of
removal_of-front was is key of front follows =
    ap (λ m. removal_in m is.key is.orig.end is.resp.end) follows.last_is
    ∙ ap (λ k. removal_in was.last k is.orig.end is.resp.end) follows.key_is
    ∙ ap (λ e. removal_in was.last was.key e is.resp.end) (ap (λ (h : Half). h.end) follows.orig_is ∙ end_of_front (originator_in was) Orig was.orig key of front)
    ∙ ap (λ e. removal_in was.last was.key was.orig.end e) (ap (λ (h : Half). h.end) follows.resp_is ∙ end_of_front (originator_in was) Resp was.resp key of front)
  where
    removal_in : Moment → Key → StreamEnd → StreamEnd → Moment
    removal_in last key orig resp = record { 0 = saturate_signed w64 (last.0 +ℤ pos (wait (is_tcp key.proto) orig resp)) }

-- a front of an instance
pub tells_front : (old new : Conns) (slot : ℕ) (was now is : Instance) (of : Side) (front : ℕ) → get old.slots slot ≡ Some was → get old.slots slot ≡ Some now
    → Follows now is (Front now.key of front) → is.filed ≡ now.filed → new.slots ≡ with_value old.slots slot is → new.keys ≡ old.keys → new.numbers ≡ old.numbers
    → new.removals ≡ old.removals → new.begun ≡ old.begun → new.recent ≡ old.recent → Tells old new slot was (Front was.key of front)
tells_front old new slot was now is of front there seen follows filed written same_keys same_numbers same_removals same_begun same_recent =
    subst (λ (w : Instance). Tells old new slot w (Front w.key of front)) (one_value there seen)
    (record {
      is = is;
      changes = written_changes old new slot now is (Front now.key of front) seen follows filed written same_keys same_numbers same_removals same_begun same_recent;
      follows = follows;
      filed = λ early. subst (λ (m : Moment). int_le m.0 (removal_of is).0 ≡ true) (sym filed)
          (subst (λ (m : Moment). int_le now.filed.0 m.0 ≡ true) (sym (removal_of-front now is now.key of front follows)) early);
    })

-- what a packet did is the same by an instance that knows the same
touched-same : (was mid is : Instance) (opened : Bool) (p : L4View) → SameFacts mid is → touched_between was mid opened p ≡ touched_between was is opened p
touched-same was mid is opened p same =
    ap (λ n. touched_by_parts n mid.orig mid.resp) (sym same.number_is)
    ∙ ap (λ h. touched_by_parts is.number h mid.resp) (sym same.orig_is)
    ∙ ap (λ h. touched_by_parts is.number is.orig h) (sym same.resp_is)
  where
    touched_by_parts : ℕ → Half → Half → Touched
    touched_by_parts number orig resp = touched_between was (record mid { number = number; orig = orig; resp = resp }) opened p

-- what a packet did, by the instance that was then filed anew
pub touched_hastened : (old mid new : Conns) (slot : ℕ) (was now between is : Instance) (opened : Bool) (p : L4View) → get old.slots slot ≡ Some was
    → get old.slots slot ≡ Some now → mid.slots ≡ with_value old.slots slot between → ((w : Instance) → get mid.slots slot ≡ Some w → Hastens mid new slot w)
    → get new.slots slot ≡ Some is → touched_between now between opened p ≡ touched_between was is opened p
touched_hastened old mid new slot was now between is opened p there seen written hastens is_there =
    let second = hastens between (ap (λ s. get s slot) written ∙ with_value-here old.slots slot now between seen) in
    touched-same now between second.is opened p second.same
    ∙ ap (λ i. touched_between now i opened p) (sym (one_value second.changes.is_there is_there))
    ∙ ap (λ i. touched_between i is opened p) (one_value there seen)

-- what a result says where it is no error
pub on_ok-not_err : {A E : Type 0} (r : Result A E) {P : Type 0} → is_err r ≡ false → OnOk r P → P
on_ok-not_err (Ok x) is fact = fact
on_ok-not_err (Err e) is fact = absurd (true≢false is)
