-- What a builtin list has after some lines of a file.
use Rattle.std.proofs.Common.{◌≡◌, ◌+◌, ◌-◌, ◌<◌, ◌++◌, ◌∙◌, ◌^◌, inl, inr, ℕ, Bool, true, false, not, cond, List, [], ◌∷◌, length, take, drop, map, get_or, min, ap, sym, subst, arith, Option, Some, None}
use Rattle.std.specs.List.{filter}
use Rattle.std.proofs.lemmas.List.{take_more, take_all, map-append, append-nil}
use Rattle.std.proofs.lemmas.List.Elements.{filter-append}
use denote.Ref.{Bor}
use Rattle.glk_base.specs.Lines.{lines, left_lines, trimmed_line, is_skipped, line_at, IsCut, HasRead, IsFirstBad}
use Rattle.glk_base.proofs.Cuts.{start_read, next_line, read_good, read_bad, read_whole, read_all}
use Rattle.glk_arena.specs.Builtins.{Builtin, Gives, IsGood, IsGoodLine, read_lines, EachGives, AreListed}
use Rattle.glk_arena.specs.BuiltinLines.{TakesLine}

-- How far the lines are read: they are good, and the list has what they give.
pub record HasListed (ls : List (List ℕ)) (list : List Builtin) (rest : Option (Bor (List ℕ))) (number : ℕ) : Type 0 where
  pub taken : ℕ
  pub read : HasRead ls (IsGoodLine ls) taken rest number
  pub listed : AreListed (take taken ls) list

pub start_listed : (text : Bor (List ℕ)) (list : List Builtin) → list ≡ [] → HasListed (lines text.now) list (Some text) 1
start_listed text list empty =
    let none : AreListed (take 0 (lines text.now)) [] = tt in
    record {
      taken = 0;
      read = start_read text (IsGoodLine (lines text.now));
      listed = subst (AreListed (take 0 (lines text.now))) (sym empty) none;
    }

-- a line more gives a builtin more
each_more : (ls : List (List ℕ)) (list : List Builtin) (line : List ℕ) (builtin : Builtin) → EachGives ls list → Gives line builtin → EachGives (ls ++ line ∷ []) (list ++ builtin ∷ [])
each_more [] [] line builtin each gives = (gives, tt)
each_more [] (b ∷ list) line builtin each gives = absurd each
each_more (l ∷ ls) [] line builtin each gives = absurd each
each_more (l ∷ ls) (b ∷ list) line builtin each gives = (each.0, each_more ls list line builtin each.1 gives)

-- the lines that are read, where a line more is looked at
read_more : (ls : List (List ℕ)) (n : ℕ) → n < length ls → read_lines (take (n + 1) ls) ≡ read_lines (take n ls) ++ filter (λ line. not (is_skipped line)) (line_at ls n ∷ [])
read_more ls n inside =
    ap read_lines (take_more ls n [] inside)
    ∙ ap (filter (λ line. not (is_skipped line))) (map-append trimmed_line (take n ls) (get_or ls n [] ∷ []))
    ∙ filter-append (λ line. not (is_skipped line)) (map trimmed_line (take n ls)) (line_at ls n ∷ [])

read_skipped : (ls : List (List ℕ)) (n : ℕ) → n < length ls → is_skipped (line_at ls n) ≡ true → read_lines (take (n + 1) ls) ≡ read_lines (take n ls)
read_skipped ls n inside skipped =
    let none : filter (λ line. not (is_skipped line)) (line_at ls n ∷ []) ≡ [] = ap (λ (b : Bool). cond (not b) (line_at ls n ∷ []) []) skipped in
    read_more ls n inside ∙ ap (λ more. read_lines (take n ls) ++ more) none ∙ append-nil (read_lines (take n ls))

read_one : (ls : List (List ℕ)) (n : ℕ) → n < length ls → is_skipped (line_at ls n) ≡ false → read_lines (take (n + 1) ls) ≡ read_lines (take n ls) ++ line_at ls n ∷ []
read_one ls n inside not_skipped =
    let one : filter (λ line. not (is_skipped line)) (line_at ls n ∷ []) ≡ line_at ls n ∷ [] = ap (λ (b : Bool). cond (not b) (line_at ls n ∷ []) []) not_skipped in
    read_more ls n inside ∙ ap (λ more. read_lines (take n ls) ++ more) one

-- the next line, without its blanks
next_listed : (ls : List (List ℕ)) (n : ℕ) (text : Bor (List ℕ)) (line t : List ℕ) (rest : Option (Bor (List ℕ))) (number : ℕ)
    → HasRead ls (IsGoodLine ls) n (Some text) number → IsCut text.now line rest → t ≡ trimmed_line line → (n < length ls) × (t ≡ line_at ls n)
next_listed ls n text line t rest number read cut is =
    let found : (n < length ls) × (get_or ls n [] ≡ line) × (drop (n + 1) ls ≡ left_lines rest) = next_line ls (IsGoodLine ls) n text line rest number read cut in
    (found.0, is ∙ ap trimmed_line (sym found.1))

-- a good line is taken
pub more_listed : (ls : List (List ℕ)) (text : Bor (List ℕ)) (line t : List ℕ) (rest : Option (Bor (List ℕ))) (number next : ℕ) (before now : List Builtin)
    → HasListed ls before (Some text) number → IsCut text.now line rest → t ≡ trimmed_line line → TakesLine t before now true → next ≡ min (number + 1) (2 ^ 32 - 1)
    → HasListed ls now rest next
more_listed ls text line t rest number next before now had cut is takes next_is =
    let n : ℕ = had.taken in
    let here : (n < length ls) × (t ≡ line_at ls n) = next_listed ls n text line t rest number had.read cut is in
    let step : TakesLine (line_at ls n) before now true = subst (λ (l : List ℕ). TakesLine l before now true) here.1 takes in
    elim step [
      | inl skipped ↦ record {
        taken = n + 1;
        read = read_good ls (IsGoodLine ls) n text line rest number next had.read cut (inl skipped.0) next_is;
        listed =
            let same : AreListed (take n ls) now = subst (AreListed (take n ls)) (sym skipped.1) had.listed in
            subst (λ (r : List (List ℕ)). EachGives r now) (sym (read_skipped ls n here.0 skipped.0)) same;
      }
      | inr adds ↦ record {
        taken = n + 1;
        read = read_good ls (IsGoodLine ls) n text line rest number next had.read cut (inr (adds.builtin, adds.gives)) next_is;
        listed =
            let more : EachGives (read_lines (take n ls) ++ line_at ls n ∷ []) (before ++ adds.builtin ∷ []) = each_more (read_lines (take n ls)) before (line_at ls n) adds.builtin had.listed adds.gives in
            let same : EachGives (read_lines (take n ls) ++ line_at ls n ∷ []) now = subst (EachGives (read_lines (take n ls) ++ line_at ls n ∷ [])) (sym adds.now_is) more in
            subst (λ (r : List (List ℕ)). EachGives r now) (sym (read_one ls n here.0 adds.gives.read)) same;
      }
    ]

-- a bad line is the first one
pub bad_listed : (ls : List (List ℕ)) (text : Bor (List ℕ)) (line t : List ℕ) (rest : Option (Bor (List ℕ))) (number : ℕ) (list : List Builtin)
    → HasListed ls list (Some text) number → IsCut text.now line rest → t ≡ trimmed_line line → (IsGood t → ⊥) → IsFirstBad ls (IsGoodLine ls) number
bad_listed ls text line t rest number list had cut is bad =
    let here : (had.taken < length ls) × (t ≡ line_at ls had.taken) = next_listed ls had.taken text line t rest number had.read cut is in
    read_bad ls (IsGoodLine ls) had.taken text line rest number had.read cut (λ good. bad (subst IsGood (sym here.1) good))

-- nothing is left
pub whole_good : (ls : List (List ℕ)) (list : List Builtin) (number : ℕ) → HasListed ls list None number → (k : ℕ) → k < length ls → IsGoodLine ls k
whole_good ls list number had = read_all ls (IsGoodLine ls) had.taken number had.read

pub whole_listed : (ls : List (List ℕ)) (list : List Builtin) (number : ℕ) → HasListed ls list None number → AreListed ls list
whole_listed ls list number had =
    let whole : had.taken ≡ length ls = read_whole ls (IsGoodLine ls) had.taken number had.read in
    let all : take had.taken ls ≡ ls = take_all had.taken ls (omega arith) in
    subst (λ (l : List (List ℕ)). AreListed l list) all had.listed
