-- One line of a text, and its end.
use Rattle.std.proofs.Common.{◌≡◌, ℕ, ◌∙◌, List, [], ◌∷◌, refl, sym, ap, subst, Bool, true, false, eqb, not, Result, Ok, Err, true≢false}
use Rattle.std.specs.Result.{IsErrAnd, IfErr}
use Rattle.glk_base.specs.declared.fault.Fault.{Fault}
use Rattle.glk_base.specs.declared.fault.Fault.TheVariants.{Bad, OutOfMemory}
use Rattle.glk_objdesc.specs.declared.desc.ObjDesc.{ObjDesc}
use Rattle.glk_objtext.specs.Answers.{Gives}
use Rattle.glk_base.specs.Lines.{lines, trimmed_line, is_skipped}
use Rattle.glk_objtext.specs.Grammar.{line_at, after, at_start}
use Rattle.glk_objtext.specs.Reading.{read_lines, onto_lines, answer_of_lines, read_text}
use Rattle.glk_objtext.specs.Rules.{next_number}
use Rattle.glk_objtext.specs.Building.{description_with, answer_with, IsRefusedLine}
use Rattle.glk_objtext.specs.Description.{description_of_lines}
use Rattle.glk_objtext.specs.declared.builder.Builder.{Builder}
use Rattle.glk_objtext.specs.declared.line.Line.{Line}
use Rattle.glk_objtext.specs.declared.read.TextBad.{TextBad}
use Rattle.glk_objtext.specs.declared.stage.Stage.{Stage}

pub passed_over : (n : ℕ) (stage : Stage) (raw : List ℕ) (more : List (List ℕ)) → is_skipped (trimmed_line raw) ≡ true → read_lines n stage (raw ∷ more) ≡ read_lines (next_number n) stage more
unfolding read_lines
passed_over n stage raw more h = rw h refl

pub good_line : (n : ℕ) (stage : Stage) (raw : List ℕ) (more : List (List ℕ)) (line : Line) → is_skipped (trimmed_line raw) ≡ false → line_at stage (trimmed_line raw) ≡ Ok line
    → read_lines n stage (raw ∷ more) ≡ onto_lines line (read_lines (next_number n) (after stage line) more)
unfolding read_lines
good_line n stage raw more line h is = rw (h, is, read_lines) refl

pub bad_line : (n : ℕ) (stage : Stage) (raw : List ℕ) (more : List (List ℕ)) (rule : ℕ) → is_skipped (trimmed_line raw) ≡ false → line_at stage (trimmed_line raw) ≡ Err rule
    → read_lines n stage (raw ∷ more) ≡ Err (record { line = n; rule = rule })
unfolding read_lines
bad_line n stage raw more rule h is = rw (h, is, read_lines) refl

-- a line that was taken
pub taken : (b c : Builder) (line : Line) (r : Result (List Line) TextBad) → ((more : List Line) → description_with c more ≡ description_with b (line ∷ more)) → answer_with c r ≡ answer_with b (onto_lines line r)
taken b c line (Ok more) same = ap (λ (d : ObjDesc). Ok d) (same more)
taken b c line (Err bad) same = refl

-- a line that was refused
pub refused : (stage : Stage) (raw : List ℕ) (e : Fault ℕ) → is_skipped (trimmed_line raw) ≡ false → Gives (line_at stage (trimmed_line raw)) (Err e) → IsRefusedLine stage raw e
refused stage raw (Bad rule) h broken = λ n more. bad_line n stage raw more rule h broken
refused stage raw OutOfMemory h broken = tt

-- no more lines
pub none_begun : (n : ℕ) (stage : Stage) → eqb stage.rank 0 ≡ true → read_lines n stage [] ≡ Err (record { line = 1; rule = 2 })
unfolding read_lines
none_begun n stage h = rw h refl

pub all_read : (n : ℕ) (stage : Stage) → eqb stage.rank 0 ≡ false → read_lines n stage [] ≡ Ok []
unfolding read_lines
all_read n stage h = rw h refl

begins : (b : Builder) (r : Result (List Line) TextBad) → ((more : List Line) → description_with b more ≡ description_of_lines more) → answer_with b r ≡ answer_of_lines r
begins b (Ok more) same = ap (λ (d : ObjDesc). Ok d) (same more)
begins b (Err bad) same = refl

-- before the first line
pub at_first : (b : Builder) (text : List ℕ) → ((more : List Line) → description_with b more ≡ description_of_lines more) → answer_with b (read_lines 1 at_start (lines text)) ≡ read_text text
unfolding read_text
at_first b text same = begins b (read_lines 1 at_start (lines text)) same

pub at_refusal : {A : Type 0} (r : Result A (Fault ℕ)) (e : Fault ℕ) (P : Fault ℕ → Type 0) → IsErrAnd r (λ f. f ≡ e) → P e → IfErr r P
at_refusal (Ok x) e P was h = absurd was
at_refusal (Err f) e P was h = subst P (sym was) h

-- one line that is taken, behind what was taken before it
pub line_taken : (b c : Builder) (n : ℕ) (before behind : Stage) (raw line : List ℕ) (more : List (List ℕ)) (value : Line)
    → line ≡ trimmed_line raw → false ≡ is_skipped line → line_at before line ≡ Ok value → behind ≡ after before value
    → ((rest : List Line) → description_with c rest ≡ description_with b (value ∷ rest))
    → answer_with c (read_lines (next_number n) behind more) ≡ answer_with b (read_lines n before (raw ∷ more))
line_taken b c n before behind raw line more value trim some is next grown =
    let P : List ℕ → Type 0 = λ l. is_skipped l ≡ false in
    let Q : List ℕ → Type 0 = λ l. line_at before l ≡ Ok value in
    let good = good_line n before raw more value (subst P trim (sym some)) (subst Q trim is) in
    let grow = taken b c value (read_lines (next_number n) (after before value) more) grown in
    rw next (grow ∙ sym (ap (answer_with b) good))

pub line_passed : (b : Builder) (n : ℕ) (stage : Stage) (raw line : List ℕ) (more : List (List ℕ)) → line ≡ trimmed_line raw → true ≡ is_skipped line
    → answer_with b (read_lines (next_number n) stage more) ≡ answer_with b (read_lines n stage (raw ∷ more))
line_passed b n stage raw line more trim none =
    let P : List ℕ → Type 0 = λ l. is_skipped l ≡ true in
    sym (ap (answer_with b) (passed_over n stage raw more (subst P trim (sym none))))

pub line_refused : (stage : Stage) (raw line : List ℕ) (e : Fault ℕ) → line ≡ trimmed_line raw → false ≡ is_skipped line → Gives (line_at stage line) (Err e) → IsRefusedLine stage raw e
line_refused stage raw line e trim some broken =
    let P : List ℕ → Type 0 = λ l. is_skipped l ≡ false in
    let Q : List ℕ → Type 0 = λ l. Gives (line_at stage l) (Err e) in
    refused stage raw e (subst P trim (sym some)) (subst Q trim broken)

not_true : (a : Bool) → false ≡ not a → a ≡ true
not_true true h = refl
not_true false h = absurd (true≢false (sym h))

not_false : (a : Bool) → true ≡ not a → a ≡ false
not_false false h = refl
not_false true h = absurd (true≢false h)

pub end_refused : (b : Builder) (n : ℕ) (stage : Stage) → false ≡ not (eqb stage.rank 0) → answer_with b (read_lines n stage []) ≡ Err (record { line = 1; rule = 2 })
end_refused b n stage h = ap (answer_with b) (none_begun n stage (not_true (eqb stage.rank 0) h))

pub end_read : (b : Builder) (n : ℕ) (stage : Stage) → true ≡ not (eqb stage.rank 0) → answer_with b (read_lines n stage []) ≡ Ok (description_with b [])
end_read b n stage h = ap (answer_with b) (all_read n stage (not_false (eqb stage.rank 0) h))
