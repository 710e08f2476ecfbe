-- Lines that are spelled are cut and trimmed as they were spelled.
use Rattle.std.proofs.Common.{◌≡◌, ℕ, ◌+◌, ◌-◌, ◌<◌, ◌∙◌, true, false, List, [], ◌∷◌, ◌++◌, length, map, reverse, refl, ap, arith, cond, eqb, append_assoc, take_all}
use Rattle.std.specs.List.{All, list_all, prefix_len, suffix_len, slice_split}
use Rattle.std.proofs.lemmas.Bool.{and_parts, false≢true}
use Rattle.std.proofs.lemmas.List.{length-reverse, reverse-append}
use Rattle.std.proofs.lemmas.List.Elements.{All-nil, All-cons}
use Rattle.std.proofs.lemmas.List.Splits.{slice_split_at}
use Rattle.glk_base.specs.Lines.{lines, is_blank, trimmed_line}
use Rattle.glk_objtext.specs.Strings.{is_printed}
use Rattle.glk_objtext.specs.Text.{whole_line, line_text, texts}
use Rattle.glk_objtext.specs.declared.line.Line.{Line}
use Rattle.glk_objtext.proofs.FieldLaws.{ends_dark, not_so}

-- no blank stands at the front of what is longer either
front_none : (xs ys : List ℕ) → 0 < length xs → prefix_len is_blank xs ≡ 0 → prefix_len is_blank (xs ++ ys) ≡ 0
front_none [] ys some h = absurd (omega arith)
front_none (x ∷ xs) ys some h = elim (is_blank x) as (λ v. cond v (1 + prefix_len is_blank xs) 0 ≡ 0 → cond v (1 + prefix_len is_blank (xs ++ ys)) 0 ≡ 0) [ true ↦ λ k. absurd (omega arith) | false ↦ λ k. refl ] h

-- no blank stands at the end
dark_end : (s : List ℕ) → ends_dark s ≡ true → suffix_len is_blank s ≡ 0
dark_end [] h = absurd (false≢true h)
dark_end (b ∷ []) h = let e = not_so (is_blank b) h in rw e refl
dark_end (b ∷ c ∷ s) h =
    let len = length-reverse (c ∷ s) in
    rw (reverse-append (b ∷ []) (c ∷ s)) (front_none (reverse (c ∷ s)) (b ∷ []) (omega (arith, len)) (dark_end (c ∷ s) h))

-- a line that begins and ends with no blank is trimmed
pub trimmed_back : (line : List ℕ) → prefix_len is_blank line ≡ 0 → ends_dark line ≡ true → trimmed_line line ≡ line
unfolding trimmed_line
trimmed_back line front end =
    let e : suffix_len is_blank line ≡ 0 = dark_end line end in
    rw (front, e) (take_all (length line - 0) line (omega arith))

-- printed bytes are no newline
no_newline : (s : List ℕ) → list_all is_printed s ≡ true → All (λ b. eqb b 10 ≡ false) s
no_newline [] h = All-nil (λ b. eqb b 10 ≡ false)
no_newline (b ∷ s) h =
    let both = and_parts (is_printed b) (list_all is_printed s) h in
    let p : is_printed b ≡ true = both.0 in
    let e : eqb b 10 ≡ false = grind arith in
    All-cons (λ x. eqb x 10 ≡ false) b s e (no_newline s both.1)

abbrev pub ArePrinted : List Line → Type 0
ArePrinted [] = Unit {0}
ArePrinted (l ∷ ls) = (list_all is_printed (line_text l) ≡ true) × ArePrinted ls

-- the lines of the text of lines; behind the last newline stands an empty one
pub lines_back : (ls : List Line) → ArePrinted ls → lines (texts ls) ≡ map line_text ls ++ [] ∷ []
unfolding lines whole_line
lines_back [] h = refl
lines_back (l ∷ ls) h =
    ap (slice_split (λ b. eqb b 10)) (append_assoc (line_text l) (10 ∷ []) (texts ls))
    ∙ slice_split_at (λ b. eqb b 10) (line_text l) 10 (texts ls) (no_newline (line_text l) h.0) refl
    ∙ ap (λ (more : List (List ℕ)). line_text l ∷ more) (lines_back ls h.1)
