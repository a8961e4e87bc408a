-- Lines that were read, one after another.
use Rattle.std.proofs.Common.{◌≡◌, ℕ, true, false, List, [], ◌∷◌, ◌++◌, refl, ap, sym, ◌∙◌, append_assoc, append-nil, subst, length, arith}
use Rattle.streams.specs.Lines.{lines}
use Rattle.audit_stream.specs.Tells.{Told, TellsLine, TellsLines}
use Rattle.audit_stream.specs.Reading.{IsCompleteLine, ReadsUpTo, StopsWithin, ReadsLast, StopsAtFirst}

tells-more : (first second : List (List ℕ)) (old mid new : Told) → TellsLines first old mid → TellsLines second mid new → TellsLines (first ++ second) old new
tells-more [] second old mid new is tells = subst (λ told. TellsLines second told new) is tells
tells-more (line ∷ others) second old mid new (next, tells, rest) more = (next, tells, tells-more others second next mid new rest more)

tells-one : (line : List ℕ) (old new : Told) → TellsLine line old new → TellsLines (line ∷ []) old new
tells-one line old new tells = (new, tells, refl)

tells-last : (lines : List (List ℕ)) (line : List ℕ) (old mid new : Told) → TellsLines lines old mid → TellsLine line mid new → TellsLines (lines ++ line ∷ []) old new
tells-last lines line old mid new tells more = tells-more lines (line ∷ []) old mid new tells (tells-one line mid new more)

-- a text that goes on

pub reads-none : (text : List ℕ) (told : Told) → ReadsUpTo text text told told
reads-none text told = record { read = []; split = λ future. refl; tells = refl }

pub reads-line : (text rest line others : List ℕ) (old mid new : Told) → ReadsUpTo text rest old mid → IsCompleteLine rest line others → TellsLine line mid new → ReadsUpTo text others old new
reads-line text rest line others old mid new reads is tells = record {
  read = reads.read ++ line ∷ [];
  split = λ future. reads.split future ∙ ap (λ ls. reads.read ++ ls) (is future) ∙ sym (append_assoc reads.read (line ∷ []) (lines (others ++ future)));
  tells = tells-last reads.read line old mid new reads.tells tells;
}

pub stops-line : (text rest line others : List ℕ) (old mid new : Told) → ReadsUpTo text rest old mid → mid.broken ≡ false → IsCompleteLine rest line others → TellsLine line mid new → new.broken ≡ true → StopsWithin text old new
stops-line text rest line others old mid new reads unbroken is tells broken = record {
  before = reads.read;
  line = line;
  rest = others;
  split = λ future. reads.split future ∙ ap (λ ls. reads.read ++ ls) (is future);
  lawful = mid;
  tells = reads.tells;
  unbroken = unbroken;
  breaks = tells;
  broken = broken;
}

pub reads-grows : (text rest piece : List ℕ) (old new : Told) → ReadsUpTo text rest old new → ReadsUpTo (text ++ piece) (rest ++ piece) old new
reads-grows text rest piece old new reads = record {
  read = reads.read;
  split = λ future. ap lines (append_assoc text piece future) ∙ reads.split (piece ++ future) ∙ ap (λ bytes. reads.read ++ lines bytes) (sym (append_assoc rest piece future));
  tells = reads.tells;
}

pub reads-on : (text rest left : List ℕ) (old mid new : Told) → ReadsUpTo text rest old mid → ReadsUpTo rest left mid new → ReadsUpTo text left old new
reads-on text rest left old mid new reads more = record {
  read = reads.read ++ more.read;
  split = λ future. reads.split future ∙ ap (λ ls. reads.read ++ ls) (more.split future) ∙ sym (append_assoc reads.read more.read (lines (left ++ future)));
  tells = tells-more reads.read more.read old mid new reads.tells more.tells;
}

pub stops-on : (text rest : List ℕ) (old mid new : Told) → ReadsUpTo text rest old mid → StopsWithin rest mid new → StopsAtFirst text old new
stops-on text rest old mid new reads stops = record {
  before = reads.read ++ stops.before;
  line = stops.line;
  others = lines (stops.rest ++ []);
  split = ap lines (sym (append-nil text)) ∙ reads.split [] ∙ ap (λ ls. reads.read ++ ls) (stops.split []) ∙ sym (append_assoc reads.read stops.before (stops.line ∷ lines (stops.rest ++ [])));
  lawful = stops.lawful;
  tells = tells-more reads.read stops.before old mid stops.lawful reads.tells stops.tells;
  unbroken = stops.unbroken;
  breaks = stops.breaks;
  broken = stops.broken;
}

-- the last lines

pub last-none : (text : List ℕ) (told : Told) → ReadsLast text text told told
last-none text told = record { read = []; split = refl; tells = refl }

pub last-line : (text rest line others : List ℕ) (old mid new : Told) → ReadsLast text rest old mid → lines rest ≡ line ∷ lines others → TellsLine line mid new → ReadsLast text others old new
last-line text rest line others old mid new reads is tells = record {
  read = reads.read ++ line ∷ [];
  split = reads.split ∙ ap (λ ls. reads.read ++ ls) is ∙ sym (append_assoc reads.read (line ∷ []) (lines others));
  tells = tells-last reads.read line old mid new reads.tells tells;
}

pub last-stops : (text rest line others : List ℕ) (old mid new : Told) → ReadsLast text rest old mid → mid.broken ≡ false → lines rest ≡ line ∷ lines others → TellsLine line mid new → new.broken ≡ true → StopsAtFirst text old new
last-stops text rest line others old mid new reads unbroken is tells broken = record {
  before = reads.read;
  line = line;
  others = lines others;
  split = reads.split ∙ ap (λ ls. reads.read ++ ls) is;
  lawful = mid;
  tells = reads.tells;
  unbroken = unbroken;
  breaks = tells;
  broken = broken;
}

no-lines : (rest : List ℕ) → length rest ≡ 0 → lines rest ≡ []
unfolding lines
no-lines [] none = refl
no-lines (x ∷ xs) none = absurd (omega arith)

pub last-all : (text rest : List ℕ) (old new : Told) → ReadsLast text rest old new → length rest ≡ 0 → TellsLines (lines text) old new
last-all text rest old new reads none =
    let all = reads.split ∙ ap (λ ls. reads.read ++ ls) (no-lines rest none) ∙ append-nil reads.read in
    subst (λ ls. TellsLines ls old new) (sym all) reads.tells

-- the last lines of a text whose first ones were read before
pub last-on : (text rest : List ℕ) (old mid new : Told) → ReadsUpTo text rest old mid → TellsLines (lines rest) mid new → TellsLines (lines text) old new
last-on text rest old mid new reads tells =
    let all = ap lines (sym (append-nil text)) ∙ reads.split [] ∙ ap (λ bytes. reads.read ++ lines bytes) (append-nil rest) in
    subst (λ ls. TellsLines ls old new) (sym all) (tells-more reads.read (lines rest) old mid new reads.tells tells)

pub last-stops-on : (text rest : List ℕ) (old mid new : Told) → ReadsUpTo text rest old mid → StopsAtFirst rest mid new → StopsAtFirst text old new
last-stops-on text rest old mid new reads stops =
    let all = ap lines (sym (append-nil text)) ∙ reads.split [] ∙ ap (λ bytes. reads.read ++ lines bytes) (append-nil rest) in record {
      before = reads.read ++ stops.before;
      line = stops.line;
      others = stops.others;
      split = all ∙ ap (λ ls. reads.read ++ ls) stops.split ∙ sym (append_assoc reads.read stops.before (stops.line ∷ stops.others));
      lawful = stops.lawful;
      tells = tells-more reads.read stops.before old mid stops.lawful reads.tells stops.tells;
      unbroken = stops.unbroken;
      breaks = stops.breaks;
      broken = stops.broken;
    }
