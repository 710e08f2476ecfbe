-- The fields of a line are those that the text form gives it, and no others.
use Rattle.std.proofs.Common.{◌≡◌, ◌∙◌, ℕ, ◌<◌, true, false, List, [], ◌∷◌, ◌++◌, length, refl, ap, sym, arith, inl, inr, eqb, append_assoc, append-nil}
use Rattle.std.specs.Prelude.{◌⊎◌}
use Rattle.std.specs.List.{All, concat}
use Rattle.std.proofs.lemmas.Bool.{cases_eq}
use Rattle.std.proofs.lemmas.List.Elements.{All-nil, All-cons, All-head, All-tail, All-push}
use Rattle.std.proofs.lemmas.List.Folds.{concat-append}
use Rattle.glk_objtext.specs.Fields.{quote, backslash, next_mode, is_between, fields_from, fields}
use Rattle.glk_objtext.specs.Forms.{IsSpace, IsNoSpace, IsQuotedPiece, IsQuotedRun, IsPlainField, IsQuotedField, IsOpenField, EndsBefore, HasFields}
use Rattle.glk_objtext.specs.declared.fields.Mode.{Mode}
use Rattle.glk_objtext.specs.declared.fields.Mode.TheVariants.{Between, Bare, Quoted, Escaped}
use Rattle.glk_objtext.proofs.FieldSteps.{byte_ends, byte_goes_on, at_end}
use Rattle.glk_objtext.proofs.FieldLaws.{stays, field_then, field_last}

ne_eqb : (a b : ℕ) → ¬ (a ≡ b) → eqb a b ≡ false
ne_eqb a b h = elim (cases_eq a b) [ inl e ↦ absurd (h e) | inr n ↦ grind arith ]

-- Runs between quotes.

run_none : IsQuotedRun []
run_none = record { pieces = []; whole = refl; each = All-nil IsQuotedPiece }

run_more : (s piece : List ℕ) → IsQuotedRun s → IsQuotedPiece piece → IsQuotedRun (s ++ piece)
run_more s piece run one =
    let last : concat (piece ∷ []) ≡ piece = append-nil piece in
    let whole : s ++ piece ≡ concat (run.pieces ++ piece ∷ []) =
    ap (λ (x : List ℕ). x ++ piece) run.whole ∙ ap (λ (x : List ℕ). concat run.pieces ++ x) (sym last) ∙ sym (concat-append run.pieces (piece ∷ [])) in
    record {
      pieces = run.pieces ++ piece ∷ [];
      whole = whole;
      each = All-push IsQuotedPiece run.pieces piece run.each one;
    }

-- What the open field is.

abbrev IsBegun : Mode → List ℕ → Type 0
IsBegun Between f = f ≡ []
IsBegun Bare f = IsPlainField f ⊎ IsQuotedField f
IsBegun Quoted f = (inner : List ℕ) × (f ≡ quote ∷ inner) × IsQuotedRun inner
IsBegun Escaped f = (inner : List ℕ) × (f ≡ quote ∷ (inner ++ backslash ∷ [])) × IsQuotedRun inner

-- the field that has begun goes on in the line, and the other fields follow it
abbrev GoesOn : List ℕ → List ℕ → List (List ℕ) → Type 0
GoesOn f line [] = ⊥
GoesOn f line (g ∷ gs) = (tail : List ℕ) × (rest : List ℕ) × (line ≡ tail ++ rest) × (g ≡ f ++ tail) × EndsBefore g rest × HasFields rest gs

-- the same, or there is no such field
abbrev IsCut : Mode → List ℕ → List ℕ → List (List ℕ) → Type 0
IsCut Between f line gs = HasFields line gs
IsCut Bare f line gs = GoesOn f line gs
IsCut Quoted f line gs = GoesOn f line gs
IsCut Escaped f line gs = GoesOn f line gs

-- modes after a byte
from_space : next_mode Between 32 ≡ Between
unfolding next_mode
from_space = refl

from_quote : next_mode Between 34 ≡ Quoted
unfolding next_mode
from_quote = refl

from_other : (b : ℕ) → ¬ (b ≡ 32) → ¬ (b ≡ 34) → next_mode Between b ≡ Bare
unfolding next_mode
from_other b s q = rw (ne_eqb b 32 s, ne_eqb b 34 q) refl

bare_space : next_mode Bare 32 ≡ Between
unfolding next_mode
bare_space = refl

bare_other : (b : ℕ) → ¬ (b ≡ 32) → next_mode Bare b ≡ Bare
unfolding next_mode
bare_other b s = rw (ne_eqb b 32 s) refl

quoted_quote : next_mode Quoted 34 ≡ Bare
unfolding next_mode
quoted_quote = refl

quoted_backslash : next_mode Quoted 92 ≡ Escaped
unfolding next_mode
quoted_backslash = refl

quoted_other : (b : ℕ) → ¬ (b ≡ 34) → ¬ (b ≡ 92) → next_mode Quoted b ≡ Quoted
unfolding next_mode
quoted_other b q s = rw (ne_eqb b 34 q, ne_eqb b 92 s) refl

escaped_any : (b : ℕ) → next_mode Escaped b ≡ Quoted
unfolding next_mode
escaped_any b = refl

-- one byte more of a field that goes on
more : (f s : List ℕ) (b : ℕ) (gs : List (List ℕ)) → GoesOn (f ++ b ∷ []) s gs → GoesOn f (b ∷ s) gs
more f s b [] h = h
more f s b (g ∷ gs) h = (b ∷ h.0, h.1, ap (λ (x : List ℕ). b ∷ x) h.2, h.3 ∙ append_assoc f (b ∷ []) h.0, h.4, h.5)

-- a field begins with the line
starts : (s : List ℕ) (b : ℕ) (gs : List (List ℕ)) → GoesOn (b ∷ []) s gs → HasFields (b ∷ s) gs
starts s b [] h = absurd h
starts s b (g ∷ gs) h =
    (h.1, record { gap = []; whole = ap (λ (x : List ℕ). b ∷ x) h.2 ∙ ap (λ (x : List ℕ). x ++ h.1) (sym h.3); spaces = All-nil IsSpace; ends = h.4 }, h.5)

-- a space before the fields
space_before : (s : List ℕ) (gs : List (List ℕ)) → HasFields s gs → HasFields (32 ∷ s) gs
space_before s [] h = All-cons IsSpace 32 s refl h
space_before s (g ∷ gs) h =
    let one = h.1 in
    (h.0, record { gap = 32 ∷ one.gap; whole = ap (λ (x : List ℕ). 32 ∷ x) one.whole; spaces = All-cons IsSpace 32 one.gap refl one.spaces; ends = one.ends }, h.2)

-- a field that has ended before a space
ended_by_space : (f s : List ℕ) → IsPlainField f ⊎ IsQuotedField f → HasFields s (fields s) → GoesOn f (32 ∷ s) (f ∷ fields s)
ended_by_space f s is has = ([], 32 ∷ s, refl, sym (append-nil f), inl (is, inr (s, refl)), space_before s (fields s) has)

-- a field that has one byte more
plain_more : (f : List ℕ) (b : ℕ) → ¬ (b ≡ 32) → IsPlainField f → IsPlainField (f ++ b ∷ [])
plain_more f b other is =
    record {
      first = is.first;
      rest = is.rest ++ b ∷ [];
      whole = ap (λ (x : List ℕ). x ++ b ∷ []) is.whole;
      plain = is.plain;
      solid = All-push IsNoSpace (is.first ∷ is.rest) b is.solid other;
    }

quoted_field_more : (f : List ℕ) (b : ℕ) → ¬ (b ≡ 32) → IsQuotedField f → IsQuotedField (f ++ b ∷ [])
quoted_field_more f b other is =
    record {
      inner = is.inner;
      rest = is.rest ++ b ∷ [];
      whole = ap (λ (x : List ℕ). x ++ b ∷ []) is.whole ∙ ap (λ (x : List ℕ). 34 ∷ x) (append_assoc is.inner (34 ∷ is.rest) (b ∷ []));
      run = is.run;
      solid = All-push IsNoSpace is.rest b is.solid other;
    }

closed_more : (f : List ℕ) (b : ℕ) → ¬ (b ≡ 32) → IsPlainField f ⊎ IsQuotedField f → IsPlainField (f ++ b ∷ []) ⊎ IsQuotedField (f ++ b ∷ [])
closed_more f b other (inl is) = inl (plain_more f b other is)
closed_more f b other (inr is) = inr (quoted_field_more f b other is)

-- a field of one byte
one_plain : (b : ℕ) → ¬ (b ≡ 32) → ¬ (b ≡ 34) → IsPlainField (b ∷ [])
one_plain b s q = record { first = b; rest = []; whole = refl; plain = q; solid = All-cons IsNoSpace b [] s (All-nil IsNoSpace) }

-- The fields that the line is cut into are the line's.
cut : (m : Mode) (f line : List ℕ) → IsBegun m f → IsCut m f line (fields_from m f line)
cut Between f [] begun = rw (at_end Between f) (All-nil IsSpace)
cut Bare f [] begun = rw (at_end Bare f) ([], [], refl, sym (append-nil f), inl (begun, inl refl), All-nil IsSpace)
cut Quoted f [] begun =
    rw (at_end Quoted f) ([], [], refl, sym (append-nil f), inr (record { inner = begun.0; whole = inl begun.1; run = begun.2 }, refl), All-nil IsSpace)
cut Escaped f [] begun =
    rw (at_end Escaped f) ([], [], refl, sym (append-nil f), inr (record { inner = begun.0; whole = inr begun.1; run = begun.2 }, refl), All-nil IsSpace)
cut Between f (b ∷ s) begun =
    let empty : f ≡ [] = begun in
    rw empty (elim (cases_eq b 32) [
      | inl is ↦
          let has = cut Between [] s refl in
          let ends : is_between (next_mode Between 32) ≡ true = rw from_space refl in
          rw is (rw (byte_ends Between [] s 32 ends) (space_before s (fields s) has))
      | inr other ↦ elim (cases_eq b 34) [
        | inl is ↦
            let has = cut Quoted (34 ∷ []) s ([], refl, run_none) in
            let on : is_between (next_mode Between 34) ≡ false = rw from_quote refl in
            rw is (rw (byte_goes_on Between [] s 34 on) (rw from_quote (starts s 34 _ has)))
        | inr plain ↦
            let has = cut Bare (b ∷ []) s (inl (one_plain b other plain)) in
            let next = from_other b other plain in
            let on : is_between (next_mode Between b) ≡ false = rw next refl in
            rw (byte_goes_on Between [] s b on) (rw next (starts s b _ has))
      ]
    ])
cut Bare f (b ∷ s) begun =
    elim (cases_eq b 32) [
      | inl is ↦
          let has = cut Between [] s refl in
          let ends : is_between (next_mode Bare 32) ≡ true = rw bare_space refl in
          rw is (rw (byte_ends Bare f s 32 ends) (ended_by_space f s begun has))
      | inr other ↦
          let has = cut Bare (f ++ b ∷ []) s (closed_more f b other begun) in
          let next = bare_other b other in
          let on : is_between (next_mode Bare b) ≡ false = rw next refl in
          rw (byte_goes_on Bare f s b on) (rw next (more f s b _ has))
    ]
cut Quoted f (b ∷ s) begun =
    elim (cases_eq b 34) [
      | inl is ↦
          let whole : f ++ 34 ∷ [] ≡ 34 ∷ (begun.0 ++ 34 ∷ []) = ap (λ (x : List ℕ). x ++ 34 ∷ []) begun.1 in
          let has = cut Bare (f ++ 34 ∷ []) s (inr (record { inner = begun.0; rest = []; whole = whole; run = begun.2; solid = All-nil IsNoSpace })) in
          let on : is_between (next_mode Quoted 34) ≡ false = rw quoted_quote refl in
          rw is (rw (byte_goes_on Quoted f s 34 on) (rw quoted_quote (more f s 34 _ has)))
      | inr no_quote ↦ elim (cases_eq b 92) [
        | inl is ↦
            let whole : f ++ 92 ∷ [] ≡ 34 ∷ (begun.0 ++ 92 ∷ []) = ap (λ (x : List ℕ). x ++ 92 ∷ []) begun.1 in
            let has = cut Escaped (f ++ 92 ∷ []) s (begun.0, whole, begun.2) in
            let on : is_between (next_mode Quoted 92) ≡ false = rw quoted_backslash refl in
            rw is (rw (byte_goes_on Quoted f s 92 on) (rw quoted_backslash (more f s 92 _ has)))
        | inr no_slash ↦
            let whole : f ++ b ∷ [] ≡ 34 ∷ (begun.0 ++ b ∷ []) = ap (λ (x : List ℕ). x ++ b ∷ []) begun.1 in
            let has = cut Quoted (f ++ b ∷ []) s (begun.0 ++ b ∷ [], whole, run_more begun.0 (b ∷ []) begun.2 (inl (b, (no_quote, no_slash), refl))) in
            let next = quoted_other b no_quote no_slash in
            let on : is_between (next_mode Quoted b) ≡ false = rw next refl in
            rw (byte_goes_on Quoted f s b on) (rw next (more f s b _ has))
      ]
    ]
cut Escaped f (b ∷ s) begun =
    let pair : (begun.0 ++ 92 ∷ []) ++ b ∷ [] ≡ begun.0 ++ 92 ∷ b ∷ [] = append_assoc begun.0 (92 ∷ []) (b ∷ []) in
    let whole : f ++ b ∷ [] ≡ 34 ∷ (begun.0 ++ 92 ∷ b ∷ []) = ap (λ (x : List ℕ). x ++ b ∷ []) begun.1 ∙ ap (λ (x : List ℕ). 34 ∷ x) pair in
    let has = cut Quoted (f ++ b ∷ []) s (begun.0 ++ 92 ∷ b ∷ [], whole, run_more begun.0 (92 ∷ b ∷ []) begun.2 (inr (b, refl))) in
    let next = escaped_any b in
    let on : is_between (next_mode Escaped b) ≡ false = rw next refl in
    rw (byte_goes_on Escaped f s b on) (rw next (more f s b _ has))

pub line_has_fields : (line : List ℕ) → HasFields line (fields line)
line_has_fields line = cut Between [] line refl

-- The line has no other fields.

gap_skipped : (gap s : List ℕ) → All IsSpace gap → fields (gap ++ s) ≡ fields s
gap_skipped [] s h = refl
gap_skipped (b ∷ gap) s h =
    let is : b ≡ 32 = All-head IsSpace b gap h in
    let ends : is_between (next_mode Between 32) ≡ true = rw from_space refl in
    rw is (byte_ends Between [] (gap ++ s) 32 ends ∙ gap_skipped gap s (All-tail IsSpace b gap h))

-- bytes without a space stay in one field
solid_stays : (s : List ℕ) → All IsNoSpace s → stays Bare s ≡ true
solid_stays [] h = refl
solid_stays (b ∷ s) h =
    let next = bare_other b (All-head IsNoSpace b s h) in
    rw next (solid_stays s (All-tail IsNoSpace b s h))

piece_stays : (piece s : List ℕ) → IsQuotedPiece piece → stays Quoted (piece ++ s) ≡ stays Quoted s
piece_stays piece s (inl one) = let e = one.2 in let next = quoted_other one.0 one.1.0 one.1.1 in rw e (rw next refl)
piece_stays piece s (inr pair) = let e = pair.1 in let next = escaped_any pair.0 in rw e (rw quoted_backslash (rw next refl))

run_stays : (pieces : List (List ℕ)) (s : List ℕ) → All IsQuotedPiece pieces → stays Quoted (concat pieces ++ s) ≡ stays Quoted s
run_stays [] s h = refl
run_stays (p ∷ ps) s h =
    ap (stays Quoted) (append_assoc p (concat ps) s) ∙ piece_stays p (concat ps ++ s) (All-head IsQuotedPiece p ps h) ∙ run_stays ps s (All-tail IsQuotedPiece p ps h)

closed_stays : (f : List ℕ) → IsPlainField f ⊎ IsQuotedField f → stays Between f ≡ true
closed_stays f (inl is) =
    let e = is.whole in
    let next = from_other is.first (All-head IsNoSpace is.first is.rest is.solid) is.plain in
    rw e (rw next (solid_stays is.rest (All-tail IsNoSpace is.first is.rest is.solid)))
closed_stays f (inr is) =
    let e : f ≡ 34 ∷ (concat is.run.pieces ++ 34 ∷ is.rest) = is.whole ∙ ap (λ (x : List ℕ). 34 ∷ (x ++ 34 ∷ is.rest)) is.run.whole in
    rw e (rw from_quote (run_stays is.run.pieces (34 ∷ is.rest) is.run.each ∙ (rw quoted_quote (solid_stays is.rest is.solid))))

-- an open quote takes the rest of the line
open_piece : (before piece s : List ℕ) → IsQuotedPiece piece → fields_from Quoted before (piece ++ s) ≡ fields_from Quoted (before ++ piece) s
open_piece before piece s (inl one) =
    let e = one.2 in
    let next = quoted_other one.0 one.1.0 one.1.1 in
    let on : is_between (next_mode Quoted one.0) ≡ false = rw next refl in
    rw e (byte_goes_on Quoted before s one.0 on ∙ (rw next refl))
open_piece before piece s (inr pair) =
    let e = pair.1 in
    let b = pair.0 in
    let next = escaped_any b in
    let on : is_between (next_mode Quoted 92) ≡ false = rw quoted_backslash refl in
    let on_then : is_between (next_mode Escaped b) ≡ false = rw next refl in
    rw e (byte_goes_on Quoted before (b ∷ s) 92 on ∙ (rw quoted_backslash (byte_goes_on Escaped (before ++ 92 ∷ []) s b on_then
    ∙ (rw next (ap (λ (x : List ℕ). fields_from Quoted x s) (append_assoc before (92 ∷ []) (b ∷ [])))))))

open_run : (before : List ℕ) (pieces : List (List ℕ)) (s : List ℕ) → All IsQuotedPiece pieces → fields_from Quoted before (concat pieces ++ s) ≡ fields_from Quoted (before ++ concat pieces) s
open_run before [] s h = ap (λ (x : List ℕ). fields_from Quoted x s) (sym (append-nil before))
open_run before (p ∷ ps) s h =
    ap (fields_from Quoted before) (append_assoc p (concat ps) s)
    ∙ open_piece before p (concat ps ++ s) (All-head IsQuotedPiece p ps h)
    ∙ open_run (before ++ p) ps s (All-tail IsQuotedPiece p ps h)
    ∙ ap (λ (x : List ℕ). fields_from Quoted x s) (append_assoc before p (concat ps))

open_rest : (before s : List ℕ) → IsQuotedRun s → fields_from Quoted before s ≡ (before ++ s) ∷ []
open_rest before s run =
    ap (fields_from Quoted before) (run.whole ∙ sym (append-nil (concat run.pieces)))
    ∙ open_run before run.pieces [] run.each
    ∙ at_end Quoted (before ++ concat run.pieces)
    ∙ ap (λ (x : List ℕ). (before ++ x) ∷ []) (sym run.whole)

open_slash : (before s : List ℕ) → IsQuotedRun s → fields_from Quoted before (s ++ 92 ∷ []) ≡ (before ++ (s ++ 92 ∷ [])) ∷ []
open_slash before s run =
    let on : is_between (next_mode Quoted 92) ≡ false = rw quoted_backslash refl in
    let inner = concat run.pieces in
    ap (λ (x : List ℕ). fields_from Quoted before (x ++ 92 ∷ [])) run.whole
    ∙ open_run before run.pieces (92 ∷ []) run.each
    ∙ byte_goes_on Quoted (before ++ inner) [] 92 on
    ∙ (rw quoted_backslash (at_end Escaped ((before ++ inner) ++ 92 ∷ [])))
    ∙ ap (λ (x : List ℕ). x ∷ []) (append_assoc before inner (92 ∷ []))
    ∙ ap (λ (x : List ℕ). (before ++ (x ++ 92 ∷ [])) ∷ []) (sym run.whole)

first_quote : (s : List ℕ) → fields (34 ∷ s) ≡ fields_from Quoted (34 ∷ []) s
first_quote s =
    let on : is_between (next_mode Between 34) ≡ false = rw from_quote refl in
    byte_goes_on Between [] s 34 on ∙ (rw from_quote refl)

open_field : (f : List ℕ) → IsOpenField f → fields f ≡ f ∷ []
open_field f is = elim is.whole [
  | inl e ↦ rw e (first_quote is.inner ∙ open_rest (34 ∷ []) is.inner is.run)
  | inr e ↦ rw e (first_quote (is.inner ++ 92 ∷ []) ∙ open_slash (34 ∷ []) is.inner is.run)
]

first_field : (f rest : List ℕ) → EndsBefore f rest → fields (f ++ rest) ≡ f ∷ fields rest
first_field f rest (inl is) = elim is.1 [
  | inl e ↦ rw e (ap fields (append-nil f) ∙ field_last Between [] f (closed_stays f is.0) ∙ ap (λ (x : List (List ℕ)). f ∷ x) (sym (at_end Between [])))
  | inr follow ↦
      let e = follow.1 in
      let skip : fields (32 ∷ follow.0) ≡ fields follow.0 = gap_skipped (32 ∷ []) follow.0 (All-cons IsSpace 32 [] refl (All-nil IsSpace)) in
      rw e (field_then Between [] f follow.0 (closed_stays f is.0) ∙ ap (λ (x : List (List ℕ)). f ∷ x) (sym skip))
]
first_field f rest (inr is) = let e = is.1 in rw e (ap fields (append-nil f) ∙ open_field f is.0 ∙ ap (λ (x : List (List ℕ)). f ∷ x) (sym (at_end Between [])))

pub fields_are : (line : List ℕ) (fs : List (List ℕ)) → HasFields line fs → fs ≡ fields line
fields_are line [] h = sym (ap fields (sym (append-nil line)) ∙ gap_skipped line [] h ∙ at_end Between [])
fields_are line (f ∷ fs) h =
    let one = h.1 in
    let rest = h.0 in
    let line_is : fields line ≡ f ∷ fields rest = ap fields one.whole ∙ gap_skipped one.gap (f ++ rest) one.spaces ∙ first_field f rest one.ends in
    ap (λ (x : List (List ℕ)). f ∷ x) (fields_are rest fs h.2) ∙ sym line_is

-- A field has a byte at least.
full : (f rest : List ℕ) → EndsBefore f rest → 0 < length f
full f rest (inl is) = elim is.0 [
  | inl plain ↦ let e = plain.whole in rw e (omega arith)
  | inr quoted ↦ let e = quoted.whole in rw e (omega arith)
]
full f rest (inr is) = let open_one = is.0 in elim open_one.whole [
  | inl e ↦ rw e (omega arith)
  | inr e ↦ rw e (omega arith)
]

has_full : (line : List ℕ) (fs : List (List ℕ)) → HasFields line fs → All (λ (f : List ℕ). 0 < length f) fs
has_full line [] h = All-nil (λ (f : List ℕ). 0 < length f)
has_full line (f ∷ fs) h = All-cons (λ (f : List ℕ). 0 < length f) f fs (full f h.0 h.1.ends) (has_full h.0 fs h.2)

pub fields_full : (line : List ℕ) → All (λ (f : List ℕ). 0 < length f) (fields line)
fields_full line = has_full line (fields line) (line_has_fields line)
