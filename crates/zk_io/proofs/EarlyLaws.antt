-- The header of a capture is judged as soon as it is sure.
use Rattle.std.proofs.Common.{◌≡◌, inl, inr, ℕ, ◌≤◌, true, List, [], ◌++◌, Option, refl, sym, ap, subst, ◌∙◌, arith}
use Rattle.std.specs.Option.{option_map}
use Rattle.zk_base.specs.Shelf.{Outside, is_open, rest_of, lies_under, FailsToStart, FailsToRead, OpensInput}
use Rattle.zk_pcap.specs.Header.{header_of}
use Rattle.zk_io.specs.declared.capture.CaptureReader.{CaptureReader}
use Rattle.zk_outcome.specs.declared.found.Found.{Found}
use Rattle.zk_outcome.specs.declared.found.Found.TheVariants.{Accepted, Refused}
use Rattle.zk_outcome.specs.declared.stop.Stop.{Stop}
use Rattle.zk_outcome.specs.declared.stop.Stop.TheVariants.{ReadFault}
use Rattle.zk_outcome.proofs.SoFar.{IsReadSoFar}
use Rattle.zk_io.specs.Reading.{HasRead, HasJustRead, IsFoundSoon, IsJudged, IsJustRead, IsStoppedEarly, is_short}
use Rattle.zk_io.proofs.OpenCapture.{all_left}

-- before the first piece
pub none_read : (most : ℕ) (front : List ℕ) → front ≡ [] → IsJustRead most front
none_read most front none = record { before = []; piece = []; joined = none; short = refl; few = omega arith }

pub fewer : (few most : ℕ) (front : List ℕ) → few ≤ most → IsJustRead few front → IsJustRead most front
fewer few most front less soon = record {
  before = soon.before;
  piece = soon.piece;
  joined = soon.joined;
  short = soon.short;
  few = omega (arith, less, soon.few);
}

-- the input has failed before the header was sure
pub failed_early : (first now new : Outside) (front : List ℕ) → IsReadSoFar first front now → FailsToRead now new → is_short (header_of front) ≡ true → IsStoppedEarly (rest_of first) ReadFault new
failed_early first now new front far fails short = inr (record {
  front = front;
  read = record {
    is_readable = ap (λ (o : Outside). is_open o.reading) fails.after ∙ far.is_readable;
    rest = far.rest ∙ ap (option_map (λ rest. front ++ rest)) (sym (ap rest_of fails.after));
  };
  short = short;
})

-- no input was opened
pub failed_start : (name : List ℕ) (whole : Option (List ℕ)) (old new : Outside) → FailsToStart old name new → IsStoppedEarly whole ReadFault new
failed_start name whole old new fails = inl (ap (λ (o : Outside). o.reading) fails.after)

pub stopped_early : (name : List ℕ) (old mid new : Outside) (stop : Stop) → OpensInput old name mid → IsStoppedEarly (rest_of mid) stop new → IsStoppedEarly (lies_under old.inputs name) stop new
stopped_early name old mid new stop opens early = subst (λ whole. IsStoppedEarly whole stop new) (all_left old mid name opens) early

pub found_soon : (name front : List ℕ) (most : ℕ) (old mid new : Outside) (found : Found CaptureReader) → OpensInput old name mid → HasRead (rest_of mid) front new → IsJustRead most front
    → IsJudged name front found → IsFoundSoon most (lies_under old.inputs name) found new
found_soon name front most old mid new found opens has soon judges = by found judges
  where
    read : HasJustRead most (lies_under old.inputs name) new
    read = record { front = front; read = subst (λ whole. HasRead whole front new) (all_left old mid name opens) has; soon = soon }

    by : (found : Found CaptureReader) → IsJudged name front found → IsFoundSoon most (lies_under old.inputs name) found new
    by (Accepted reader) judges = read
    by (Refused e) judges = subst (λ ending. IsFoundSoon most (lies_under old.inputs name) (Refused ending) new) (sym judges.2) read
