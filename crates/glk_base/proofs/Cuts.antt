-- Cutting a text at its first newline, and what a reader of lines knows after each of them.
use Rattle.std.proofs.Common.{suc, add-one, drop-cons, length-drop, ◌≡◌, ◌+◌, ◌-◌, ◌<◌, ◌≤◌, ◌∙◌, ◌^◌, ℕ, true, false, List, [], ◌∷◌, length, take, drop, min, get_or, refl, ap, sym, subst, arith, eqb, Option, Some, None, cond, not}
use Rattle.std.specs.List.{onto_first, position_or_len}
use Rattle.std.proofs.lemmas.List.{take_rest}
use Rattle.std.proofs.lemmas.List.Splits.{slice_split_first, slice_split-cons_no}
use borrow.Author.Count.{below_more}
use denote.Ref.{Bor}
use Rattle.glk_base.specs.Lines.{lines, left_lines, IsCut, HasRead, IsFirstBad, AllGood}

pub cut_more : (text : List ℕ) (i : ℕ) → i ≡ position_or_len (λ b. eqb b 10) text → i < length text
    → (lines text ≡ take i text ∷ lines (take (length text - (i + 1)) (drop (i + 1) text)))
unfolding lines
cut_more text i e h =
    let within : position_or_len (λ b. eqb b 10) text < length text = subst (λ (n : ℕ). n < length text) e h in
    let first = slice_split_first (λ b. eqb b 10) text 0 within in
    rw take_rest (rw e first)

not_yet : (b : ℕ) (text : List ℕ) → length (b ∷ text) ≤ position_or_len (λ b. eqb b 10) (b ∷ text) → (eqb b 10 ≡ false) × (length text ≤ position_or_len (λ b. eqb b 10) text)
not_yet b text h = elim (eqb b 10) as (λ v. length (b ∷ text) ≤ cond (not v) (1 + position_or_len (λ b. eqb b 10) text) 0 → (v ≡ false) × (length text ≤ position_or_len (λ b. eqb b 10) text)) [ true ↦ λ k. absurd (omega arith) | false ↦ λ k. (refl, omega arith) ] h

-- no newline: the text is the one line
pub cut_last : (text : List ℕ) → length text ≤ position_or_len (λ b. eqb b 10) text → lines text ≡ text ∷ []
unfolding lines
cut_last [] h = refl
cut_last (b ∷ text) h = let both = not_yet b text h in slice_split-cons_no (λ b. eqb b 10) b text both.0 ∙ ap (onto_first b) (cut_last text both.1)

-- what comes first after the first k elements is element k
pub first_left : (ls more : List (List ℕ)) (line : List ℕ) (k : ℕ) → drop k ls ≡ line ∷ more → (k < length ls) × (get_or ls k [] ≡ line) × (drop (k + 1) ls ≡ more)
first_left ls more line k e =
    let long : length (drop k ls) ≡ suc (length more) = ap length e in
    let inside : k < length ls = omega (arith, length-drop k ls, long) in
    let is : get_or ls k [] ∷ drop (suc k) ls ≡ line ∷ more = sym (drop-cons ls k [] inside) ∙ e in
    let same : drop (k + 1) ls ≡ drop (suc k) ls = rw add-one refl in
    (inside, cc is, same ∙ cc is)

-- before the first line is read
pub start_read : (text : Bor (List ℕ)) (Good : ℕ → Type 0) → HasRead (lines text.now) Good 0 (Some text) 1
start_read text Good = record { within = omega arith; left = refl; number_is = refl; good = λ k low. absurd (omega arith) }

-- the next line, once it is cut
pub next_line : (ls : List (List ℕ)) (Good : ℕ → Type 0) (n : ℕ) (text : Bor (List ℕ)) (line : List ℕ) (rest : Option (Bor (List ℕ))) (number : ℕ)
    → HasRead ls Good n (Some text) number → IsCut text.now line rest
    → (n < length ls) × (get_or ls n [] ≡ line) × (drop (n + 1) ls ≡ left_lines rest)
next_line ls Good n text line rest number h c = first_left ls (left_lines rest) line n (sym h.left ∙ c.cut)

-- a good line is read
pub read_good : (ls : List (List ℕ)) (Good : ℕ → Type 0) (n : ℕ) (text : Bor (List ℕ)) (line : List ℕ) (rest : Option (Bor (List ℕ))) (number next : ℕ)
    → HasRead ls Good n (Some text) number → IsCut text.now line rest → Good n → next ≡ min (number + 1) (2 ^ 32 - 1)
    → HasRead ls Good (n + 1) rest next
read_good ls Good n text line rest number next h c good next_is =
    let found : (n < length ls) × (get_or ls n [] ≡ line) × (drop (n + 1) ls ≡ left_lines rest) = next_line ls Good n text line rest number h c in
    record {
      within = let inside : n < length ls = found.0 in omega arith;
      left = sym found.2;
      number_is = let before = h.number_is in grind arith;
      good = below_more Good n h.good good;
    }

-- a bad line is the first one
pub read_bad : (ls : List (List ℕ)) (Good : ℕ → Type 0) (n : ℕ) (text : Bor (List ℕ)) (line : List ℕ) (rest : Option (Bor (List ℕ))) (number : ℕ)
    → HasRead ls Good n (Some text) number → IsCut text.now line rest → (Good n → ⊥)
    → IsFirstBad ls Good number
read_bad ls Good n text line rest number h c bad = record {
  line = n;
  inside = (next_line ls Good n text line rest number h c).0;
  before = h.good;
  bad = bad;
  number_is = h.number_is;
}

-- nothing is left: all lines are read
pub read_whole : (ls : List (List ℕ)) (Good : ℕ → Type 0) (n number : ℕ) → HasRead ls Good n None number → n ≡ length ls
read_whole ls Good n number h =
    let none : length (drop n ls) ≡ 0 = sym (ap length h.left) in
    omega (arith, length-drop n ls, none, h.within)

pub read_all : (ls : List (List ℕ)) (Good : ℕ → Type 0) (n number : ℕ) → HasRead ls Good n None number → AllGood ls Good
read_all ls Good n number h = λ k inside. let whole : n ≡ length ls = read_whole ls Good n number h in h.good k (omega arith)
