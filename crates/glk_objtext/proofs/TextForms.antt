-- The text form as a whole: what a text reads as is what the form says, and its first bad line is.
use Rattle.std.proofs.Common.{◌≡◌, ◌∙◌, ℕ, true, false, List, [], ◌∷◌, refl, ap, sym, subst, inl, inr, eqb, Result, Ok, Err}
use Rattle.std.specs.Prelude.{◌⊎◌, ◌↔◌}
use Rattle.std.specs.List.{AllZip}
use Rattle.std.specs.Result.{IfErr, IfOk}
use Rattle.glk_base.specs.declared.fault.Fault.{Fault}
use Rattle.glk_base.specs.declared.fault.Fault.TheVariants.{Bad, OutOfMemory}
use Rattle.glk_objtext.specs.Answers.{Gives}
use Rattle.std.proofs.lemmas.Bool.{cases_Bool, cases_order, eqb-true, eqb-false}
use Rattle.glk_base.specs.Lines.{lines, trimmed_line, is_skipped}
use Rattle.glk_objdesc.specs.declared.desc.ObjDesc.{ObjDesc}
use Rattle.glk_objtext.specs.Description.{description_of_lines, flags_from, fingerprint_from, no_fingerprint}
use Rattle.glk_objtext.specs.Entries.{HoldsHeader}
use Rattle.glk_objtext.specs.Fields.{fields, field_at}
use Rattle.glk_objtext.specs.Grammar.{at_start, after}
use Rattle.glk_objtext.specs.Reading.{onto_lines, read_lines, read_text, answer_of_lines}
use Rattle.glk_objtext.specs.Kinds.{kind_word}
use Rattle.glk_objtext.specs.Kinds.Kind.{object_line}
use Rattle.glk_objtext.specs.Rules.Rule.{X2}
use Rattle.glk_objtext.specs.Spelled.{BeginsWithHeader, HoldsObject, Spells}
use Rattle.glk_objtext.specs.Values.{word_of_line}
use Rattle.glk_objtext.specs.Rules.{next_number, IsRefusalOf, LineFields, Rule, rule_number, BreaksFirst, IsGoodLine, Says, AreGoodLines, IsFirstBadLine, IsFirstBadOf}
use Rattle.glk_objtext.specs.declared.line.DefBlock.TheVariants.{Symdef, Hashed64def, Hasheddef, Nonpkgdef}
use Rattle.glk_objtext.specs.declared.line.Line.{Line}
use Rattle.glk_objtext.specs.declared.line.Line.TheVariants.{Header, Import, Package, Source, Symbol, Content, Relocation, Auxiliary, Reference, Flags, Named}
use Rattle.glk_objtext.specs.declared.read.TextBad.{TextBad}
use Rattle.glk_objtext.specs.declared.stage.Stage.{Stage}
use Rattle.glk_objtext.proofs.FieldSplits.{line_has_fields, fields_are}
use Rattle.glk_objtext.proofs.KindFacts.{kind_of, kind_only}
use Rattle.glk_objtext.proofs.LineForms.{Holds}
use Rattle.glk_objtext.proofs.ObjectForms.{imports_held, packages_held, sources_held, defs_held, hash64_held, hashed_held, ndefs_held, references_held, flags_held, names_held}
use Rattle.glk_objtext.proofs.OneObject.{object_one}
use Rattle.glk_objtext.proofs.ReadSteps.{passed_over, good_line, bad_line, none_begun, all_read}
use Rattle.glk_objtext.proofs.StageForms.{IsReached, IsLineOf, at_first, line_verdict}

says : (raw : List ℕ) → is_skipped (trimmed_line raw) ≡ false → Says raw (fields (trimmed_line raw))
says raw some = record { something = some; split = line_has_fields (trimmed_line raw) }

-- What the lines read as: values of good lines, or the first bad one.
abbrev LinesVerdict : List LineFields → ℕ → Stage → List (List ℕ) → Type 0
LinesVerdict above n stage raws =
    ((said : List LineFields) × (values : List Line) × (read_lines n stage raws ≡ Ok values) × AreGoodLines above raws said × AllZip IsLineOf said values)
    ⊎ ((bad : TextBad) × (read_lines n stage raws ≡ Err bad) × IsFirstBadLine above n raws bad)

lines_verdict : (raws : List (List ℕ)) (above : List LineFields) (n : ℕ) (stage : Stage) → IsReached above stage → LinesVerdict above n stage raws
lines_verdict [] above n stage at = elim (cases_Bool (eqb stage.rank 0)) [
  | inl none ↦ inr (record { line = 1; rule = 2 }, none_begun n stage none, (at.none (eqb-true stage.rank 0 none), refl))
  | inr some ↦ let other = eqb-false stage.rank 0 some in inl ([], [], all_read n stage some, (λ e. other (at.some e), refl), tt)
]
lines_verdict (raw ∷ more) above n stage at = elim (cases_Bool (is_skipped (trimmed_line raw))) [
  | inl nothing ↦
      let pass = passed_over n stage raw more nothing in
      elim (lines_verdict more above (next_number n) stage at) [
        | inl is ↦ inl (is.0, is.1, pass ∙ is.2, inl (nothing, is.3), is.4)
        | inr bad ↦ inr (bad.0, pass ∙ bad.1, inl (nothing, bad.2))
      ]
  | inr some ↦ elim (line_verdict above stage (trimmed_line raw) at) [
    | inl one ↦
        let taken = good_line n stage raw more one.0 some one.1 in
        elim (lines_verdict more (fields (trimmed_line raw) ∷ above) (next_number n) (after stage one.0) one.4) [
          | inl is ↦
              let whole : read_lines n stage (raw ∷ more) ≡ Ok (one.0 ∷ is.1) = taken ∙ ap (onto_lines one.0) is.2 in
              inl (fields (trimmed_line raw) ∷ is.0, one.0 ∷ is.1, whole, inr (fields (trimmed_line raw), says raw some, one.3, is.0, refl, is.3), (one.2, is.4))
          | inr bad ↦
              inr (bad.0, taken ∙ ap (onto_lines one.0) bad.1, inr (fields (trimmed_line raw), says raw some, inr (one.3, bad.2)))
        ]
    | inr one ↦
        inr (
          record { line = n; rule = rule_number one.0 },
          bad_line n stage raw more (rule_number one.0) some one.1,
          inr (fields (trimmed_line raw), says raw some, inl (one.0, one.2, refl)),
        )
  ]
]

-- The first bad line by the form is the one that is read.

one_rule : (above : List LineFields) (fs : LineFields) (a b : Rule) → BreaksFirst above fs a → BreaksFirst above fs b → rule_number a ≡ rule_number b
one_rule above fs a b first second = elim (cases_order (rule_number a) (rule_number b)) [
  | inl same ↦ same
  | inr apart ↦ elim apart [
    | inl less ↦ absurd (second.least a less first.broken)
    | inr more ↦ absurd (first.least b more second.broken)
  ]
]

bad_read : (raws : List (List ℕ)) (above : List LineFields) (n : ℕ) (stage : Stage) (bad : TextBad) → IsReached above stage → IsFirstBadLine above n raws bad → read_lines n stage raws ≡ Err bad
bad_read [] above n stage bad at is =
    let zero_rank : eqb stage.rank 0 ≡ true = let e = at.some is.0 in rw e refl in
    none_begun n stage zero_rank ∙ ap (λ (b : TextBad). Err b) (sym is.1)
bad_read (raw ∷ more) above n stage bad at (inl is) = passed_over n stage raw more is.0 ∙ bad_read more above (next_number n) stage bad at is.1
bad_read (raw ∷ more) above n stage bad at (inr is) =
    let same : is.0 ≡ fields (trimmed_line raw) = fields_are (trimmed_line raw) is.0 is.1.split in
    let some = is.1.something in
    elim (line_verdict above stage (trimmed_line raw) at) [
      | inl one ↦ elim is.2 [
        | inl broken ↦ absurd (one.3 broken.0 (subst (λ (fs : LineFields). BreaksFirst above fs broken.0) same broken.1).broken)
        | inr good ↦
            good_line n stage raw more one.0 some one.1
            ∙ ap (onto_lines one.0) (bad_read more (fields (trimmed_line raw) ∷ above) (next_number n) (after stage one.0) bad one.4
            (subst (λ (fs : LineFields). IsFirstBadLine (fs ∷ above) (next_number n) more bad) same good.1))
      ]
      | inr one ↦ elim is.2 [
        | inl broken ↦
            let rule = one_rule above (fields (trimmed_line raw)) one.0 broken.0 one.2 (subst (λ (fs : LineFields). BreaksFirst above fs broken.0) same broken.1) in
            bad_line n stage raw more (rule_number one.0) some one.1 ∙ ap (λ (r : ℕ). Err (record { line = n; rule = r })) rule ∙ ap (λ (b : TextBad). Err b) (sym broken.2)
        | inr good ↦ absurd (subst (λ (fs : LineFields). IsGoodLine above fs) same good.0 one.0 one.2.broken)
      ]
    ]

-- Good lines by the form are those that are read.
good_read : (raws : List (List ℕ)) (above : List LineFields) (n : ℕ) (stage : Stage) (said : List LineFields) → IsReached above stage → AreGoodLines above raws said
    → (values : List Line) × (read_lines n stage raws ≡ Ok values) × AllZip IsLineOf said values
good_read [] above n stage said at is =
    let some : eqb stage.rank 0 ≡ false = elim (cases_Bool (eqb stage.rank 0)) [ inl none ↦ absurd (is.0 (at.none (eqb-true stage.rank 0 none))) | inr other ↦ other ] in
    ([], all_read n stage some, subst (λ (s : List LineFields). AllZip IsLineOf s []) (sym is.1) tt)
good_read (raw ∷ more) above n stage said at (inl is) =
    let rest = good_read more above (next_number n) stage said at is.1 in
    (rest.0, passed_over n stage raw more is.0 ∙ rest.1, rest.2)
good_read (raw ∷ more) above n stage said at (inr is) =
    let same : is.0 ≡ fields (trimmed_line raw) = fields_are (trimmed_line raw) is.0 is.1.split in
    let some = is.1.something in
    elim (line_verdict above stage (trimmed_line raw) at) [
      | inl one ↦
          let rest = good_read more (fields (trimmed_line raw) ∷ above) (next_number n) (after stage one.0) is.3 one.4 (subst (λ (fs : LineFields). AreGoodLines (fs ∷ above) more is.3) same is.5) in
          let whole : said ≡ fields (trimmed_line raw) ∷ is.3 = is.4 ∙ ap (λ (fs : LineFields). fs ∷ is.3) same in
          (one.0 ∷ rest.0, good_line n stage raw more one.0 some one.1 ∙ ap (onto_lines one.0) rest.1, subst (λ (s : List LineFields). AllZip IsLineOf s (one.0 ∷ rest.0)) (sym whole) (one.2, rest.2))
      | inr one ↦ absurd (subst (λ (fs : LineFields). IsGoodLine above fs) same is.2 one.0 one.2.broken)
    ]

answer_bad : (r : Result (List Line) TextBad) (bad : TextBad) → answer_of_lines r ≡ Err bad → r ≡ Err bad
answer_bad (Ok values) bad h = cc h
answer_bad (Err e) bad h = let same : e ≡ bad = cc in ap (λ (b : TextBad). Err b) same

not_both : (r : Result (List Line) TextBad) (values : List Line) (bad : TextBad) → r ≡ Ok values → r ≡ Err bad → ⊥
not_both r values bad h k = cc

one_bad : (r : Result (List Line) TextBad) (a b : TextBad) → r ≡ Err a → r ≡ Err b → a ≡ b
one_bad r a b h k = cc

-- the first bad line of a text
pub first_bad : (text : List ℕ) (bad : TextBad) → (read_text text ≡ Err bad) ↔ IsFirstBadOf text bad
unfolding read_text
first_bad text bad = (
  λ h.
      let r = read_lines 1 at_start (lines text) in
      let refused = answer_bad r bad h in
      elim (lines_verdict (lines text) [] 1 at_start at_first) [
        | inl is ↦ absurd (not_both r is.1 bad is.2 refused)
        | inr is ↦ subst (IsFirstBadOf text) (one_bad r is.0 bad is.1 refused) is.2
      ],
  λ h. ap answer_of_lines (bad_read (lines text) [] 1 at_start bad at_first h),
)

-- The flags and the fingerprint are those of the first line.

abbrev PassesHeader : Line → Type 0
PassesHeader line = (¬ (object_line ≡ kind_of (word_of_line line)))
    × ((f : ℕ) (values : List Line) → flags_from f (line ∷ values) ≡ flags_from f values)
    × ((p : List ℕ) (values : List Line) → fingerprint_from p (line ∷ values) ≡ fingerprint_from p values)

abbrev GivesHeader : LineFields → Line → Type 0
GivesHeader fs line = (flags : ℕ) × (fingerprint : List ℕ) × HoldsHeader fs flags fingerprint × (object_line ≡ kind_of (word_of_line line))
    × ((f : ℕ) (values : List Line) → flags_from f (line ∷ values) ≡ flags_from flags values)
    × ((p : List ℕ) (values : List Line) → fingerprint_from p (line ∷ values) ≡ fingerprint_from fingerprint values)

header_or : (fs : LineFields) (line : Line) → Holds fs line → GivesHeader fs line ⊎ PassesHeader line
header_or fs (Header flags fingerprint) h = inl (flags, fingerprint, h, refl, λ f values. refl, λ p values. refl)
header_or fs (Import a) h = inr (λ e. cc, λ f values. refl, λ p values. refl)
header_or fs (Package path) h = inr (λ e. cc, λ f values. refl, λ p values. refl)
header_or fs (Source file) h = inr (λ e. cc, λ f values. refl, λ p values. refl)
header_or fs (Symbol Symdef sym hash) h = inr (λ e. cc, λ f values. refl, λ p values. refl)
header_or fs (Symbol Hashed64def sym hash) h = inr (λ e. cc, λ f values. refl, λ p values. refl)
header_or fs (Symbol Hasheddef sym hash) h = inr (λ e. cc, λ f values. refl, λ p values. refl)
header_or fs (Symbol Nonpkgdef sym hash) h = inr (λ e. cc, λ f values. refl, λ p values. refl)
header_or fs (Content bytes) h = inr (λ e. cc, λ f values. refl, λ p values. refl)
header_or fs (Relocation r) h = inr (λ e. cc, λ f values. refl, λ p values. refl)
header_or fs (Auxiliary a) h = inr (λ e. cc, λ f values. refl, λ p values. refl)
header_or fs (Reference sym) h = inr (λ e. cc, λ f values. refl, λ p values. refl)
header_or fs (Flags r) h = inr (λ e. cc, λ f values. refl, λ p values. refl)
header_or fs (Named r) h = inr (λ e. cc, λ f values. refl, λ p values. refl)

-- a line under others is no `object` line
later_header : (above : List LineFields) (fs : LineFields) (line : Line) → (¬ (above ≡ [])) → IsGoodLine above fs → IsLineOf fs line → PassesHeader line
later_header above fs line under good is = elim (header_or fs line is.holds) [
  | inl gives ↦ absurd (good X2 (inr (under, is.kind ∙ ap kind_word (sym gives.3))))
  | inr passes ↦ passes
]

first_header : (fs : LineFields) (line : Line) → IsGoodLine [] fs → IsLineOf fs line → GivesHeader fs line
first_header fs line good is = elim (header_or fs line is.holds) [
  | inl gives ↦ gives
  | inr passes ↦ absurd (good X2 (inl (refl, λ o. passes.0 (kind_only (field_at fs 0) (word_of_line line) object_line is.kind o))))
]

no_lines : (fs : LineFields) (above : List LineFields) → fs ∷ above ≡ [] → ⊥
no_lines fs above h = cc

abbrev KeepsHeader : List Line → Type 0
KeepsHeader values = ((f : ℕ) → flags_from f values ≡ f) × ((p : List ℕ) → fingerprint_from p values ≡ p)

later_keep : (raws : List (List ℕ)) (above said : List LineFields) (values : List Line) → (¬ (above ≡ [])) → AreGoodLines above raws said → AllZip IsLineOf said values → KeepsHeader values
later_keep [] above said values under is all = keep values (subst (λ (s : List LineFields). AllZip IsLineOf s values) is.1 all)
  where
    keep : (vs : List Line) → AllZip IsLineOf [] vs → KeepsHeader vs
    keep [] h = (λ f. refl, λ p. refl)
    keep (v ∷ vs) h = absurd h
later_keep (raw ∷ more) above said values under (inl is) all = later_keep more above said values under is.1 all
later_keep (raw ∷ more) above said values under (inr is) all =
    keep values (subst (λ (s : List LineFields). AllZip IsLineOf s values) is.4 all) (λ vs zip. later_keep more (is.0 ∷ above) is.3 vs (no_lines is.0 above) is.5 zip)
  where
    keep : (vs : List Line) → AllZip IsLineOf (is.0 ∷ is.3) vs → ((ws : List Line) → AllZip IsLineOf is.3 ws → KeepsHeader ws) → KeepsHeader vs
    keep [] h rec = absurd h
    keep (v ∷ vs) h rec =
        let passes = later_header above is.0 v under is.2 h.0 in
        let rest = rec vs h.1 in
        (λ f. passes.1 f vs ∙ rest.0 f, λ p. passes.2 p vs ∙ rest.1 p)

header_held : (raws : List (List ℕ)) (said : List LineFields) (values : List Line) (f : ℕ) (p : List ℕ) → AreGoodLines [] raws said → AllZip IsLineOf said values
    → BeginsWithHeader said (flags_from f values) (fingerprint_from p values)
header_held [] said values f p is all = absurd (is.0 refl)
header_held (raw ∷ more) said values f p (inl is) all = header_held more said values f p is.1 all
header_held (raw ∷ more) said values f p (inr is) all =
    subst (λ (s : List LineFields). BeginsWithHeader s (flags_from f values) (fingerprint_from p values)) (sym is.4)
    (held values (subst (λ (s : List LineFields). AllZip IsLineOf s values) is.4 all))
  where
    held : (vs : List Line) → AllZip IsLineOf (is.0 ∷ is.3) vs → HoldsHeader is.0 (flags_from f vs) (fingerprint_from p vs)
    held [] h = absurd h
    held (v ∷ vs) h =
        let gives = first_header is.0 v is.2 h.0 in
        let keeps = later_keep more (is.0 ∷ []) is.3 vs (no_lines is.0 []) is.5 h.1 in
        let flags = gives.4 f vs ∙ keeps.0 gives.0 in
        let print = gives.5 p vs ∙ keeps.1 gives.1 in
        subst (λ (x : ℕ). HoldsHeader is.0 x (fingerprint_from p (v ∷ vs))) (sym flags) (subst (HoldsHeader is.0 gives.0) (sym print) gives.2)

-- The lines hold what they read as.
object_held : (raws : List (List ℕ)) (said : List LineFields) (values : List Line) → AreGoodLines [] raws said → AllZip IsLineOf said values → HoldsObject said (description_of_lines values)
unfolding description_of_lines
object_held raws said values good all = record {
  header = header_held raws said values 0 no_fingerprint good all;
  autolib = imports_held said values all;
  pkgs = packages_held said values all;
  files = sources_held said values all;
  defs = defs_held said values all;
  hash64 = hash64_held said values all;
  hashed = hashed_held said values all;
  ndefs = ndefs_held said values all;
  refs = references_held said values all;
  ref_flags = flags_held said values all;
  ref_names = names_held said values all;
}

answer_good : (r : Result (List Line) TextBad) (values : List Line) (d : ObjDesc) → r ≡ Ok values → answer_of_lines r ≡ Ok d → description_of_lines values ≡ d
answer_good r values d h k = let whole : answer_of_lines (Ok values) ≡ Ok d = sym (ap answer_of_lines h) ∙ k in cc

answer_ok : (r : Result (List Line) TextBad) (bad : TextBad) (d : ObjDesc) → r ≡ Err bad → answer_of_lines r ≡ Ok d → ⊥
answer_ok r bad d h k = let whole : answer_of_lines (Err bad) ≡ Ok d = sym (ap answer_of_lines h) ∙ k in cc

-- the description of a text
pub spelled : (text : List ℕ) (d : ObjDesc) → (read_text text ≡ Ok d) ↔ Spells text d
unfolding read_text
spelled text d = (
  λ h.
      let r = read_lines 1 at_start (lines text) in
      elim (lines_verdict (lines text) [] 1 at_start at_first) [
        | inl is ↦
            let held = object_held (lines text) is.0 is.1 is.3 is.4 in
            (is.0, is.3, subst (HoldsObject is.0) (answer_good r is.1 d is.2 h) held)
        | inr bad ↦ absurd (answer_ok r bad.0 d bad.1 h)
      ],
  λ h.
      let read = good_read (lines text) [] 1 at_start h.0 at_first h.1 in
      let held = object_held (lines text) h.0 read.0 h.1 read.2 in
      ap answer_of_lines read.1 ∙ ap (λ (x : ObjDesc). Ok x) (object_one h.0 (description_of_lines read.0) d held h.2),
)

-- what a call that answers the reading of a text says of the text
pub formed : (text : List ℕ) (r : Result ObjDesc (Fault TextBad)) → Gives (read_text text) r → IfOk r (Spells text) × IfErr r (IsRefusalOf text)
formed text (Ok d) h = ((spelled text d).0 h, tt)
formed text (Err (Bad bad)) h = (tt, (first_bad text bad).0 h)
formed text (Err OutOfMemory) h = (tt, tt)
