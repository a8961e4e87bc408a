-- The lines of a script that were run, and those that are left.
use Rattle.std.proofs.Common.{◌≡◌, ℕ, ◌+◌, ◌-◌, ◌<◌, ◌≤◌, Bool, true, false, cond, List, [], ◌∷◌, ◌++◌, length, take, refl, ap, sym, ◌∙◌, arith, Option, Some, None, Result, Ok, Err, append_assoc, append-nil, subst, inl, inr, IfErr}
use Rattle.std.specs.Io.KnownBytes.{Appends, Consumes, IsAtEnd}
use Rattle.std.proofs.KnownBytes.{Appends-nil, Appends-trans}
use Rattle.script_text.specs.declared.fault.FaultKind.{FaultKind}
use Rattle.script_text.specs.declared.fault.FaultKind.TheVariants.{Memory, Read, Write, ScriptTooLong, LineTooLong, Unknown, Form, Place, BadLimits, BadSite, TooManySites}
use Rattle.script_text.specs.declared.fault.ScriptFault.{ScriptFault}
use Rattle.script_text.specs.declared.command.Command.{Command}
use Rattle.script_text.specs.declared.command.Command.TheVariants as commands
use Rattle.script_text.specs.declared.command.Limits.{Limits}
use Rattle.streams.specs.Words.{words}
use Rattle.script_text.specs.Grammar.{reading, reading_of, present, command_of, formed, limits_form, site_form, get_form, claim_form, back_form, drop_form, leave_form, limit_form, prune_form, upkeep_form, look_form}
use Rattle.std.specs.Str.{bytes_eq}
use Rattle.std.specs.Prelude.{codes}
use Rattle.streams.specs.Lines.{lines}
use Rattle.script_engine.specs.Meaning.{Run, start, step, with_limits, add_site, with_url, with_answer, asked_answer}
use Rattle.script_text.specs.Site.{site_named}
use Rattle.conn_key.specs.declared.site.Site.{Site}
use Rattle.script_engine.specs.Transcript.{Transcript, whole_text, text_up_to, text_before, IsRun, before_others, line_step, line_step_of, Ends, EndsByFault, FailsBy}
use Rattle.script_engine.specs.Traces.{told_as, traced_step, with_echo, output_of}
use Rattle.script_engine.specs.Running.{RunsLines, LineFails, RunsScript, RunsWithoutReading, ReadsAll, ReadsOn, WritesNothing, IsOfNoStream, read_failures, write_failures}
use Rattle.streams.specs.Streams.{Stream, SameFailures, in_memory}
use Rattle.script_engine.specs.ReadScripts.{ReadFails}
use Rattle.streams.proofs.Streaming.{proper-front}
use Rattle.std.proofs.lemmas.Bool.{le-ltb, lt-ltb}
use Rattle.std.proofs.lemmas.List.{length-append}
use Rattle.std.proofs.lemmas.List.Folds.{concat-append}
use Rattle.std.proofs.Math.Seq.{take-append_seam, take-append-add}
use Rattle.std.specs.List.{concat}

-- the faults that a line can have
is_of_line : FaultKind → Bool
is_of_line LineTooLong = true
is_of_line Unknown = true
is_of_line Form = true
is_of_line Place = true
is_of_line BadLimits = true
is_of_line BadSite = true
is_of_line TooManySites = true
is_of_line _ = false

-- what a line means fails by no other
abbrev OfLine : {A : Type 0} → Result A FaultKind → Type 0
OfLine r = (kind : FaultKind) → r ≡ Err kind → is_of_line kind ≡ true

ok-of : {A : Type 0} (x : A) → OfLine (Ok x)
ok-of x = λ kind e. cc

err-of : {A : Type 0} (of : FaultKind) → is_of_line of ≡ true → OfLine {A = A} (Err of)
err-of of h = λ kind e. let same : of ≡ kind = cc in subst (λ k. is_of_line k ≡ true) same h

either-of : {A : Type 0} (b : Bool) (x y : Result A FaultKind) → OfLine x → OfLine y → OfLine (cond b x y)
either-of true x y p q = p
either-of false x y p q = q

formed-of : (c : Option Command) → OfLine (formed c)
unfolding is_of_line
formed-of None = err-of Form refl
formed-of (Some c) = ok-of c

command-of : (name : List ℕ) (rest : List (List ℕ)) → OfLine (command_of name rest)
unfolding command_of is_of_line
command-of name rest = either-of (bytes_eq name (codes "limits")) (formed (limits_form rest)) _ (formed-of (limits_form rest)) (either-of (bytes_eq name (codes "site")) (formed (site_form rest)) _ (formed-of (site_form rest)) (either-of (bytes_eq name (codes "get")) (formed (get_form rest)) _ (formed-of (get_form rest)) (either-of (bytes_eq name (codes "claim")) (formed (claim_form rest)) _ (formed-of (claim_form rest)) (either-of (bytes_eq name (codes "back")) (formed (back_form rest)) _ (formed-of (back_form rest)) (either-of (bytes_eq name (codes "drop")) (formed (drop_form rest)) _ (formed-of (drop_form rest)) (either-of (bytes_eq name (codes "leave")) (formed (leave_form rest)) _ (formed-of (leave_form rest)) (either-of (bytes_eq name (codes "limit")) (formed (limit_form rest)) _ (formed-of (limit_form rest)) (either-of (bytes_eq name (codes "prune")) (formed (prune_form rest)) _ (formed-of (prune_form rest)) (either-of (bytes_eq name (codes "upkeep")) (formed (upkeep_form rest)) _ (formed-of (upkeep_form rest)) (either-of (bytes_eq name (codes "look")) (formed (look_form rest)) _ (formed-of (look_form rest)) (err-of Unknown refl)))))))))))

present-of : (r : Result Command FaultKind) → OfLine r → OfLine (present r)
present-of (Ok c) h = ok-of (Some c)
present-of (Err of) h = err-of of (h of refl)

words-of : (ws : List (List ℕ)) → OfLine (reading_of ws)
words-of [] = ok-of None
words-of (name ∷ rest) = present-of (command_of name rest) (command-of name rest)

reading-of : (line : List ℕ) → OfLine (reading line)
unfolding reading is_of_line
reading-of line = either-of _ _ _ (err-of LineTooLong refl) (either-of _ _ _ (ok-of None) (words-of (words line)))

limits-of : (run : Run) (limits : Limits) (before : Option Limits) → OfLine (with_limits run limits before)
unfolding is_of_line
limits-of run limits (Some others) = err-of Place refl
limits-of run limits None = either-of _ _ _ (ok-of _) (err-of BadLimits refl)

named-of : (run : Run) (site : Option Site) → OfLine (add_site run site)
unfolding is_of_line
named-of run None = err-of BadSite refl
named-of run (Some site) = either-of _ _ _ (err-of TooManySites refl) (ok-of _)

site-of : (run : Run) (word : List ℕ) (before : Option Limits) → OfLine (with_url run word before)
unfolding is_of_line
site-of run word None = err-of Place refl
site-of run word (Some limits) = either-of _ _ _ (err-of Place refl) (named-of run (site_named word))

answered-of : (run : Run) (answer : _) (before : Option Limits) → OfLine (with_answer run answer before)
unfolding is_of_line
answered-of run answer None = err-of Place refl
answered-of run answer (Some limits) = ok-of _

step-of : (run : Run) (command : Command) → OfLine (step run command)
unfolding step
step-of run (commands.Limits limits) = limits-of run limits run.limits
step-of run (commands.Site word) = site-of run word run.limits
step-of run (commands.Ask asked) = answered-of run (asked_answer asked) run.limits

line-step-of : (run : Run) (r : Result (Option Command) FaultKind) → OfLine r → OfLine (line_step_of run r)
line-step-of run (Err of) h = err-of of (h of refl)
line-step-of run (Ok None) h = ok-of _
line-step-of run (Ok (Some command)) h = step-of run command

line-of : (run : Run) (line : List ℕ) → OfLine (line_step run line)
unfolding line_step
line-of run line = line-step-of run (reading line) (reading-of line)

-- what the lines so far wrote, and the transcript of those that are left, is all
abbrev pub after_texts : List (List ℕ) → Transcript → Transcript
after_texts texts t = record { texts = texts ++ t.texts; fault = t.fault }

pub record RunSoFar (old mid : Stream) (all left : Transcript) (count : ℕ) : Type 0 where
  pub texts : List (List ℕ)
  pub counted : length texts ≡ count
  pub appended : Appends old.bytes mid.bytes (concat texts)
  pub whole : all ≡ after_texts texts left
  pub unfailed : SameFailures old mid

pub run-none : (old : Stream) (all : Transcript) → RunSoFar old old all all 0
run-none old all = record { texts = []; counted = refl; appended = Appends-nil old.bytes; whole = refl; unfailed = refl }

one-more : (texts : List (List ℕ)) (text : List ℕ) → concat (texts ++ text ∷ []) ≡ concat texts ++ text
one-more texts text = concat-append texts (text ∷ []) ∙ ap (λ last. concat texts ++ last) (append-nil text)

kept : (old mid new : Option (List ℕ)) (written : List ℕ) → Appends old mid written → Appends mid new [] → Appends old new written
kept old mid new written p q = rw (sym (append-nil written)) (Appends-trans old mid new written [] p q)

-- what the lines so far wrote is what those before the next one write
so-far-before : (all left : Transcript) (texts : List (List ℕ)) (n : ℕ) → all ≡ after_texts texts left → length texts + 1 ≡ n → text_before n all ≡ concat texts
so-far-before all left texts n whole counted =
    let count : n - 1 ≡ length texts = omega (arith, counted) in
    ap (text_before n) whole ∙ ap (λ k. concat (take k (texts ++ left.texts))) count ∙ ap concat (take-append_seam texts left.texts)

-- and the next one's text comes after it
so-far-next : (all : Transcript) (texts rest : List (List ℕ)) (text : List ℕ) (fault : Option ScriptFault) (n : ℕ) → all ≡ record { texts = texts ++ text ∷ rest; fault = fault } → length texts + 1 ≡ n
    → text_up_to n all ≡ concat texts ++ text
so-far-next all texts rest text fault n whole counted =
    ap (text_up_to n) whole ∙ ap (λ k. concat (take k (texts ++ text ∷ rest))) (sym counted)
    ∙ ap concat (take-append-add texts (text ∷ rest) 1) ∙ one-more texts text

-- the next line is run
next-runs : (n : ℕ) (texts : List (List ℕ)) (made : Result (Run × List ℕ) FaultKind) (others : Run → Transcript) → length texts + 1 ≡ n → IsRun (after_texts texts (before_others n made others)) n
next-runs n texts (Err kind) others counted = inr refl
next-runs n texts (Ok next) others counted = inl (omega (arith, counted, length-append texts (next.1 ∷ (others next.0).texts)))

pub no-lines : (rest : List ℕ) → length rest ≡ 0 → lines rest ≡ []
unfolding lines
no-lines [] none = refl
no-lines (x ∷ xs) none = absurd (omega arith)

none-failed : (writer : Stream) → writer.failures ≡ writer.failures + 0
none-failed writer = omega arith

-- a script that was read to its end
all-read : {A : Type 0} (left : Option (List ℕ)) (script written : List ℕ) (r : Result A ScriptFault) → IsAtEnd left → length script ≤ 1048576 → ReadsAll left script written r
all-read left script written (Ok done) end short = end
all-read left script written (Err fault) end short =
    let at : (kind : FaultKind) → ReadsOn left script written fault.line kind = elim [
      | Memory ↦ inl end
      | Read ↦ short
      | Write ↦ end
      | ScriptTooLong ↦ inl end
      | LineTooLong ↦ end
      | Unknown ↦ end
      | Form ↦ end
      | Place ↦ end
      | BadLimits ↦ end
      | BadSite ↦ end
      | TooManySites ↦ end
    ] in
    at fault.kind

read-whole : (script front rest : List ℕ) → script ≡ front ++ rest → rest ≡ [] → front ≡ script
read-whole script front rest split end = sym (append-nil front) ∙ ap (λ r. front ++ r) (sym end) ∙ sym split

longer : (script front rest : List ℕ) → script ≡ front ++ rest → 1048576 < length front → 1048576 < length script
longer script front rest split long = omega (arith, simp length-append at (ap length split))

-- where no stream failed, the fault is of none
not-of-stream : (kind : FaultKind) → read_failures kind ≡ 0 → write_failures kind ≡ 0 → (kind ≡ Read → ⊥) × (kind ≡ Write → ⊥)
not-of-stream kind no_read no_write = (
  (λ is. let one : 1 ≡ 0 = sym (ap read_failures is) ∙ no_read in absurd (omega (arith, one))),
  (λ is. let one : 1 ≡ 0 = sym (ap write_failures is) ∙ no_write in absurd (omega (arith, one))),
)

-- with its echo a line fails as it does without
echo-fails : (traced : Bool) (line : List ℕ) (made : Result (Run × List ℕ) FaultKind) (kind : FaultKind) → with_echo traced line made ≡ Err kind → made ≡ Err kind
echo-fails false line made kind e = e
echo-fails true line (Err of) kind e = e
echo-fails true line (Ok next) kind e = cc

not-read : (traced : Bool) (run : Run) (line : List ℕ) → traced_step traced run line ≡ Err Read → ⊥
unfolding is_of_line
not-read traced run line e = let no : false ≡ true = line-of run line Read (echo-fails traced line (line_step run line) Read e) in cc

not-write : (traced : Bool) (run : Run) (line : List ℕ) → traced_step traced run line ≡ Err Write → ⊥
unfolding is_of_line
not-write traced run line e = let no : false ≡ true = line-of run line Write (echo-fails traced line (line_step run line) Write e) in cc

-- of a transcript, or of a trace
module _ (traced : Bool) where
  -- a line that fails before it writes
  pub line-fails : (writer : Stream) (run : Run) (line : List ℕ) (kind : FaultKind) → FailsBy (traced_step traced run line) kind → LineFails writer writer (traced_step traced run line) kind
  line-fails writer run line Memory fails = (Appends-nil writer.bytes, refl)
  line-fails writer run line Write fails = absurd (not-write traced run line fails)
  line-fails writer run line Read fails = (fails, (Appends-nil writer.bytes, refl))
  line-fails writer run line ScriptTooLong fails = (fails, (Appends-nil writer.bytes, refl))
  line-fails writer run line LineTooLong fails = (fails, (Appends-nil writer.bytes, refl))
  line-fails writer run line Unknown fails = (fails, (Appends-nil writer.bytes, refl))
  line-fails writer run line Form fails = (fails, (Appends-nil writer.bytes, refl))
  line-fails writer run line Place fails = (fails, (Appends-nil writer.bytes, refl))
  line-fails writer run line BadLimits fails = (fails, (Appends-nil writer.bytes, refl))
  line-fails writer run line BadSite fails = (fails, (Appends-nil writer.bytes, refl))
  line-fails writer run line TooManySites fails = (fails, (Appends-nil writer.bytes, refl))

  pub run-more : (old mid new : Stream) (all : Transcript) (run next : Run) (count n : ℕ) (line text : List ℕ) (others : List (List ℕ))
      → RunSoFar old mid all (told_as traced run n (line ∷ others)) count → traced_step traced run line ≡ Ok (next, text) → Appends mid.bytes new.bytes text → SameFailures mid new → RunSoFar old new all (told_as traced next (n + 1) others) (count + 1)
  run-more old mid new all run next count n line text others so_far e more same =
      let rest = told_as traced next (n + 1) others in
      record {
        texts = so_far.texts ++ text ∷ [];
        counted = omega (arith, length-append so_far.texts (text ∷ []), so_far.counted);
        appended = rw (one-more so_far.texts text) (Appends-trans old.bytes mid.bytes new.bytes (concat so_far.texts) text so_far.appended more);
        whole = so_far.whole
            ∙ ap (λ r. after_texts so_far.texts (before_others n r (λ next. told_as traced next (n + 1) others))) e
            ∙ ap (λ texts. record { texts = texts; fault = rest.fault }) (sym (append_assoc so_far.texts (text ∷ []) rest.texts));
        unfailed = same ∙ so_far.unfailed;
      }

  -- no line is left
  all-run : (old mid : Stream) (all : Transcript) (run : Run) (count n : ℕ) (left : List (List ℕ)) → left ≡ []
      → (so_far : RunSoFar old mid all (told_as traced run n left) count) → (concat so_far.texts ≡ whole_text all) × (all.fault ≡ None)
  all-run old mid all run count n left none so_far =
      let is = so_far.whole ∙ ap (λ l. after_texts so_far.texts (told_as traced run n l)) none in
      (sym (ap whole_text is ∙ ap concat (append-nil so_far.texts)), ap (λ t. t.fault) is)

  pub run-end : {A : Type 0} (old mid : Stream) (all : Transcript) (run : Run) (count n : ℕ) (left : List (List ℕ)) (done : A) → left ≡ []
      → RunSoFar old mid all (told_as traced run n left) count → RunsWithoutReading old mid all (Ok done)
  run-end old mid all run count n left done none so_far =
      (record { written = concat so_far.texts; appended = so_far.appended; ends = all-run old mid all run count n left none so_far; failures = omega (arith, so_far.unfailed) }, refl)

  -- memory ran out at the script's end
  pub run-short : {A : Type 0} (old mid : Stream) (all : Transcript) (run : Run) (count n : ℕ) (left : List (List ℕ)) (kind : FaultKind) → left ≡ [] → kind ≡ Memory
      → RunSoFar old mid all (told_as traced run n left) count → RunsWithoutReading {A = A} old mid all (Err (record { line = 0; kind = kind }))
  run-short old mid all run count n left kind none is so_far = (
    record {
      written = concat so_far.texts;
      appended = so_far.appended;
      ends = subst (EndsByFault all (record { line = 0; kind = kind }) (concat so_far.texts)) (sym is) (inr (refl, inr (all-run old mid all run count n left none so_far)));
      failures = subst (λ k. mid.failures ≡ old.failures + write_failures k) (sym is) (omega (arith, so_far.unfailed));
    },
    ap read_failures is,
  )

  -- a line that fails ends the run
  stopped : (old mid new : Stream) (all : Transcript) (run : Run) (count n : ℕ) (line : List ℕ) (others : List (List ℕ)) (kind : FaultKind)
      → RunSoFar old mid all (told_as traced run n (line ∷ others)) count → traced_step traced run line ≡ Err kind → WritesNothing mid new
      → (written : List ℕ) × Appends old.bytes new.bytes written × (written ≡ whole_text all) × (all.fault ≡ Some (record { line = n; kind = kind })) × (new.failures ≡ old.failures + 0)
  stopped old mid new all run count n line others kind so_far e same =
      let is = so_far.whole ∙ ap (λ r. after_texts so_far.texts (before_others n r (λ next. told_as traced next (n + 1) others))) e in
      (concat so_far.texts, kept old.bytes mid.bytes new.bytes (concat so_far.texts) so_far.appended same.0, sym (ap whole_text is ∙ ap concat (append-nil so_far.texts)), ap (λ t. t.fault) is, omega (arith, so_far.unfailed, same.1))

  pub run-fails : {A : Type 0} (old mid new : Stream) (all : Transcript) (run : Run) (count n : ℕ) (line : List ℕ) (others : List (List ℕ)) (kind : FaultKind)
      → count + 1 ≡ n → RunSoFar old mid all (told_as traced run n (line ∷ others)) count → LineFails mid new (traced_step traced run line) kind → RunsWithoutReading {A = A} old new all (Err (record { line = n; kind = kind }))
  run-fails old mid new all run count n line others Memory next so_far fails =
      let counted : length so_far.texts + 1 ≡ n = ap (λ k. k + 1) so_far.counted ∙ next in
      let runs = next-runs n so_far.texts (traced_step traced run line) (λ next. told_as traced next (n + 1) others) counted in (
        record {
          written = concat so_far.texts;
          appended = kept old.bytes mid.bytes new.bytes (concat so_far.texts) so_far.appended fails.0;
          failures = omega (arith, so_far.unfailed, fails.1);
          ends = inl (record {
            counted = omega (arith, next);
            run = subst (λ t. IsRun t n) (sym so_far.whole) runs;
            same = sym (so-far-before all (told_as traced run n (line ∷ others)) so_far.texts n so_far.whole counted);
          });
        },
        refl,
      )
  run-fails old mid new all run count n line others Write next so_far (made, e, (front, (is_front, shorter), appended, failed)) =
      let rest = told_as traced made.0 (n + 1) others in
      let counted : length so_far.texts + 1 ≡ n = ap (λ k. k + 1) so_far.counted ∙ next in
      let is = so_far.whole ∙ ap (λ r. after_texts so_far.texts (before_others n r (λ next. told_as traced next (n + 1) others))) e in
      let up_to = so-far-next all so_far.texts rest.texts made.1 rest.fault n is counted ∙ ap (λ text. concat so_far.texts ++ text) is_front.1
      ∙ sym (append_assoc (concat so_far.texts) front is_front.0) in (
        record {
          written = concat so_far.texts ++ front;
          appended = Appends-trans old.bytes mid.bytes new.bytes (concat so_far.texts) front so_far.appended appended;
          failures = omega (arith, so_far.unfailed, failed);
          ends = record {
            counted = omega (arith, next);
            run = omega (arith, counted, ap (λ t. length t.texts) is, length-append so_far.texts (made.1 ∷ rest.texts));
            after_others = (front, ap (λ text. text ++ front) (sym (so-far-before all (told_as traced run n (line ∷ others)) so_far.texts n so_far.whole counted)));
            short = proper-front (concat so_far.texts ++ front) is_front.0 (text_up_to n all) up_to (λ none. omega (arith, none, ap length is_front.1, length-append front is_front.0, shorter));
          };
        },
        refl,
      )
  run-fails old mid new all run count n line others Read next so_far fails = absurd (not-read traced run line fails.0)
  run-fails old mid new all run count n line others ScriptTooLong next so_far fails = let s = stopped old mid new all run count n line others _ so_far fails.0 fails.1 in (record { written = s.0; appended = s.1; ends = (s.2, s.3); failures = s.4 }, refl)
  run-fails old mid new all run count n line others LineTooLong next so_far fails = let s = stopped old mid new all run count n line others _ so_far fails.0 fails.1 in (record { written = s.0; appended = s.1; ends = (s.2, s.3); failures = s.4 }, refl)
  run-fails old mid new all run count n line others Unknown next so_far fails = let s = stopped old mid new all run count n line others _ so_far fails.0 fails.1 in (record { written = s.0; appended = s.1; ends = (s.2, s.3); failures = s.4 }, refl)
  run-fails old mid new all run count n line others Form next so_far fails = let s = stopped old mid new all run count n line others _ so_far fails.0 fails.1 in (record { written = s.0; appended = s.1; ends = (s.2, s.3); failures = s.4 }, refl)
  run-fails old mid new all run count n line others Place next so_far fails = let s = stopped old mid new all run count n line others _ so_far fails.0 fails.1 in (record { written = s.0; appended = s.1; ends = (s.2, s.3); failures = s.4 }, refl)
  run-fails old mid new all run count n line others BadLimits next so_far fails = let s = stopped old mid new all run count n line others _ so_far fails.0 fails.1 in (record { written = s.0; appended = s.1; ends = (s.2, s.3); failures = s.4 }, refl)
  run-fails old mid new all run count n line others BadSite next so_far fails = let s = stopped old mid new all run count n line others _ so_far fails.0 fails.1 in (record { written = s.0; appended = s.1; ends = (s.2, s.3); failures = s.4 }, refl)
  run-fails old mid new all run count n line others TooManySites next so_far fails = let s = stopped old mid new all run count n line others _ so_far fails.0 fails.1 in (record { written = s.0; appended = s.1; ends = (s.2, s.3); failures = s.4 }, refl)

  -- a script that is not too long
  pub short-script : (script : List ℕ) → length script ≤ 1048576 → output_of traced script ≡ told_as traced start 1 (lines script)
  unfolding output_of
  short-script script h = rw (le-ltb 1048576 (length script) h) refl

  -- a script that could not be read
  pub unread-script : {A : Type 0} (unread left writer : Stream) (kind : FaultKind) → ReadFails unread left kind
      → RunsScript {A = A} traced unread left writer writer (Err (record { line = 0; kind = kind }))
  unfolding output_of
  unread-script unread left writer Memory (script, consumed, same) =
      record { script = script; consumed = consumed; lines = record { written = []; appended = Appends-nil writer.bytes; ends = inr (refl, inl refl); failures = none-failed writer }; whole = inr (refl, refl); failures = omega (arith, same) }
  unread-script unread left writer Read (script, consumed, short, failed) =
      record { script = script; consumed = consumed; lines = record { written = []; appended = Appends-nil writer.bytes; ends = (refl, refl); failures = none-failed writer }; whole = short; failures = failed }
  unread-script unread left writer ScriptTooLong (script, consumed, long, same) =
      record { script = script; consumed = consumed; lines = record { written = []; appended = Appends-nil writer.bytes; ends = rw (lt-ltb 1048576 (length script) long) (refl, refl); failures = none-failed writer }; whole = inr long; failures = omega (arith, same) }
  unread-script unread left writer Write fails = absurd fails
  unread-script unread left writer LineTooLong fails = absurd fails
  unread-script unread left writer Unknown fails = absurd fails
  unread-script unread left writer Form fails = absurd fails
  unread-script unread left writer Place fails = absurd fails
  unread-script unread left writer BadLimits fails = absurd fails
  unread-script unread left writer BadSite fails = absurd fails
  unread-script unread left writer TooManySites fails = absurd fails

  pub run-read : {A : Type 0} (unread left old new : Stream) (script : List ℕ) (r : Result A ScriptFault) → Consumes unread.bytes left.bytes script → IsAtEnd left.bytes → length script ≤ 1048576 → SameFailures unread left
      → RunsWithoutReading old new (output_of traced script) r → RunsScript traced unread left old new r
  run-read unread left old new script r consumed end short same (lines, none) =
      record { script = script; consumed = consumed; lines = lines; whole = all-read left.bytes script lines.written r end short; failures = omega (arith, same, none) }

  -- any script that is too long
  too-long : (script : List ℕ) → 1048576 < length script → output_of traced script ≡ record { texts = []; fault = Some (record { line = 0; kind = ScriptTooLong }) }
  unfolding output_of
  too-long script long = rw (lt-ltb 1048576 (length script) long) refl

  -- what a run of the bytes that were read tells of all
  ends-all : (script front rest : List ℕ) (fault : ScriptFault) (written : List ℕ) (kind : FaultKind) → script ≡ front ++ rest
      → EndsByFault (output_of traced front) fault written kind → ReadsOn (Some rest) front written fault.line kind → EndsByFault (output_of traced script) fault written kind
  ends-all script front rest fault written Memory split ends (inl end) = subst (λ s. EndsByFault (output_of traced s) fault written Memory) (read-whole script front rest split end) ends
  ends-all script front rest fault written Memory split ends (inr nothing) = inr (nothing.0, inl nothing.1)
  ends-all script front rest fault written Read split ends on = ends
  ends-all script front rest fault written ScriptTooLong split ends (inl end) = subst (λ s. EndsByFault (output_of traced s) fault written ScriptTooLong) (read-whole script front rest split end) ends
  ends-all script front rest fault written ScriptTooLong split ends (inr long) =
      subst (λ t. EndsByFault t fault written ScriptTooLong) (too-long front long ∙ sym (too-long script (longer script front rest split long))) ends
  ends-all script front rest fault written Write split ends end = subst (λ s. EndsByFault (output_of traced s) fault written Write) (read-whole script front rest split end) ends
  ends-all script front rest fault written LineTooLong split ends end = subst (λ s. EndsByFault (output_of traced s) fault written LineTooLong) (read-whole script front rest split end) ends
  ends-all script front rest fault written Unknown split ends end = subst (λ s. EndsByFault (output_of traced s) fault written Unknown) (read-whole script front rest split end) ends
  ends-all script front rest fault written Form split ends end = subst (λ s. EndsByFault (output_of traced s) fault written Form) (read-whole script front rest split end) ends
  ends-all script front rest fault written Place split ends end = subst (λ s. EndsByFault (output_of traced s) fault written Place) (read-whole script front rest split end) ends
  ends-all script front rest fault written BadLimits split ends end = subst (λ s. EndsByFault (output_of traced s) fault written BadLimits) (read-whole script front rest split end) ends
  ends-all script front rest fault written BadSite split ends end = subst (λ s. EndsByFault (output_of traced s) fault written BadSite) (read-whole script front rest split end) ends
  ends-all script front rest fault written TooManySites split ends end = subst (λ s. EndsByFault (output_of traced s) fault written TooManySites) (read-whole script front rest split end) ends

  all-ends : {A : Type 0} (script front rest written : List ℕ) (r : Result A ScriptFault) → script ≡ front ++ rest
      → Ends (output_of traced front) r written → ReadsAll (Some rest) front written r → Ends (output_of traced script) r written
  all-ends script front rest written (Ok done) split ends end = subst (λ s. Ends (output_of traced s) (Ok done) written) (read-whole script front rest split end) ends
  all-ends script front rest written (Err fault) split ends on = ends-all script front rest fault written fault.kind split ends on

  -- a script that lies in memory
  pub run-memory : {A : Type 0} (script rest : List ℕ) (old new : Stream) (r : Result A ScriptFault) → RunsScript traced (in_memory script) (in_memory rest) old new r → RunsLines old new (output_of traced script) r
  run-memory script rest old new r runs =
      record {
        written = runs.lines.written;
        appended = runs.lines.appended;
        ends = all-ends script runs.script rest runs.lines.written r runs.consumed runs.lines.ends runs.whole;
        failures = runs.lines.failures;
      }

  pub of-no-stream : {A : Type 0} (script rest old new : List ℕ) (r : Result A ScriptFault) → RunsScript traced (in_memory script) (in_memory rest) (in_memory old) (in_memory new) r → IfErr r IsOfNoStream
  of-no-stream script rest old new (Ok done) runs = tt
  of-no-stream script rest old new (Err fault) runs =
      not-of-stream fault.kind (omega (arith, runs.failures)) (omega (arith, runs.lines.failures))
