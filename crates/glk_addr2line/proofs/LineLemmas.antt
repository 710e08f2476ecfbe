-- The lines of the input, one after the other.
use Rattle.std.proofs.Common.{◌≡◌, ◌++◌, ℕ, List, [], ◌∷◌, Option, Some, None, Bool, true, false, cond, Bor, length, refl, sym, ap, ◌∙◌}
use Rattle.std.specs.Prelude.{◌==◌, ◌&&◌, not}
use Rattle.std.specs.Option.{is_none, is_some}
use Rattle.std.specs.List.{slice_split, onto_first}
use Rattle.std.proofs.lemmas.Grind.{flat_map-append}
use Rattle.glk_base.specs.Lines.{lines, newline, left_lines, IsCut}
use Rattle.glk_frames_reader.specs.Opening.{FileModule}
use Rattle.glk_addr2line.specs.Lines.{without_empty_end}
use Rattle.glk_addr2line.specs.Texts.{line_text, lines_text}

-- a list that is not empty
pub record IsSome (ls : List (List ℕ)) : Type 0 where
  pub first : List ℕ
  pub more : List (List ℕ)
  pub is : ls ≡ first ∷ more

onto : (x : ℕ) (ls : List (List ℕ)) → IsSome ls → IsSome (onto_first x ls)
onto x ls h = record { first = x ∷ h.first; more = h.more; is = ap (onto_first x) h.is }

split_some : (p : ℕ → Bool) (text : List ℕ) → IsSome (slice_split p text)
split_some p [] = record { first = []; more = []; is = refl }
split_some p (x ∷ xs) =
    elim (p x) as (λ b. IsSome (cond b ([] ∷ slice_split p xs) (onto_first x (slice_split p xs))))
    [ true ↦ record { first = []; more = slice_split p xs; is = refl } | false ↦ onto x (slice_split p xs) (split_some p xs) ]

lines_some : (text : List ℕ) → IsSome (lines text)
unfolding lines
lines_some text = split_some (λ b. b == newline) text

-- a line, where it is one: what is last is none where it is empty
abbrev pub first_lines : List ℕ → Bool → List (List ℕ)
first_lines line last = cond (last && (length line == 0)) [] (line ∷ [])

some_after : (line : List ℕ) (ls : List (List ℕ)) → IsSome ls → without_empty_end (line ∷ ls) ≡ (line ∷ []) ++ without_empty_end ls
some_after line ls h = ap (λ t. without_empty_end (line ∷ t)) h.is ∙ sym (ap (λ t. (line ∷ []) ++ without_empty_end t) h.is)

-- the first of the lines that are left
pub first_left : (text line : List ℕ) (after : Option (Bor (List ℕ))) → IsCut text line after
    → without_empty_end (lines text) ≡ first_lines line (is_none after) ++ without_empty_end (left_lines after)
first_left text line None h =
    ap without_empty_end h.cut ∙ elim (length line == 0) as (λ b. cond b [] (line ∷ []) ≡ cond b [] (line ∷ []) ++ []) [ true ↦ refl | false ↦ refl ]
first_left text line (Some more) h = ap without_empty_end h.cut ∙ some_after line (lines more.now) (lines_some more.now)

twice_not : (b : Bool) → not (not b) ≡ b
twice_not true = refl
twice_not false = refl

pub text_left : (m : FileModule) (inline : Bool) (text line : List ℕ) (after : Option (Bor (List ℕ))) (last : Bool) → is_some after ≡ not last → IsCut text line after
    → lines_text m inline (without_empty_end (lines text)) ≡ lines_text m inline (first_lines line last) ++ lines_text m inline (without_empty_end (left_lines after))
text_left m inline text line after last is h =
    ap (lines_text m inline) (first_left text line after h)
    ∙ flat_map-append (line_text m inline) (first_lines line (is_none after)) (without_empty_end (left_lines after))
    ∙ ap (λ b. lines_text m inline (first_lines line b) ++ lines_text m inline (without_empty_end (left_lines after))) (ap not is ∙ twice_not last)
