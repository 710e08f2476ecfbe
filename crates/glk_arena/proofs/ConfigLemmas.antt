-- What a line of the import configuration says, and the last file of a path.
use Rattle.std.proofs.Common.{◌≡◌, ◌+◌, ◌-◌, ◌<◌, ◌≤◌, ◌∙◌, ◌^◌, ℕ, Bool, true, false, List, [], ◌∷◌, length, take, drop, get_or, min, refl, ap, sym, subst, arith, eqb, nat_eq, Option, None, Some, cond, ◌⊎◌, inl, inr, get_or-take, length-take, length-drop}
use Rattle.std.specs.List.{starts_with, position_or_len}
use Rattle.std.specs.Str.{IsUtf8, is_utf8, bytes_eq}
use Rattle.std.specs.Cmp.Lexicographic.{same_text, bytes_decides}
use Rattle.std.proofs.lemmas.Bool.{cases_order, false≢true, eqb-true}
use Rattle.std.proofs.lemmas.List.Sums.{passes_at_first}
use Rattle.std.proofs.lemmas.Str.{IsUtf8-drop, IsCharBoundary-after_ascii, IsUtf8-from_is_utf8}
use denote.Ref.{Bor}
use Rattle.glk_base.specs.Lines.{is_skipped, line_at, lines, trimmed_line, left_lines, IsCut, IsFirstBad, HasRead}
use Rattle.glk_base.proofs.Cuts.{start_read, next_line, read_good, read_bad, read_whole}
use Rattle.glk_arena.specs.Config.{packagefile, modinfo, is_equals_sign, Lists, IsGood, IsGoodLine, IsLastFile}

-- the first byte of a line that begins with either word
pub package_first : (t : List ℕ) → starts_with nat_eq t packagefile ≡ true → get_or t 0 0 ≡ 112
package_first [] h = let same : packagefile ≡ [] = same_text packagefile [] (sym h) in cc
package_first (x ∷ t) h = sym (ap (λ (l : List ℕ). get_or l 0 0) (same_text packagefile (take 12 (x ∷ t)) (sym h)))

pub modinfo_first : (t : List ℕ) → starts_with nat_eq t modinfo ≡ true → get_or t 0 0 ≡ 109
modinfo_first [] h = let same : modinfo ≡ [] = same_text modinfo [] (sym h) in cc
modinfo_first (x ∷ t) h = sym (ap (λ (l : List ℕ). get_or l 0 0) (same_text modinfo (take 8 (x ∷ t)) (sym h)))

-- such a line is not passed over, and does not tell modules
pub package_not_passed : (t : List ℕ) → starts_with nat_eq t packagefile ≡ true → is_skipped t ≡ true → ⊥
package_not_passed [] word passed = let same : packagefile ≡ [] = same_text packagefile [] (sym word) in cc
package_not_passed (x ∷ t) word passed =
    let first : x ≡ 112 = package_first (x ∷ t) word in
    grind (arith, first, passed)

pub package_no_modinfo : (t : List ℕ) → starts_with nat_eq t packagefile ≡ true → starts_with nat_eq t modinfo ≡ true → ⊥
package_no_modinfo t word other = let p : get_or t 0 0 ≡ 112 = package_first t word in let m : get_or t 0 0 ≡ 109 = modinfo_first t other in omega arith

pub passed_lists_none : (t : List ℕ) → is_skipped t ≡ true → (path file : List ℕ) → Lists t path file → ⊥
passed_lists_none t passed path file lists = package_not_passed t lists.word passed

pub modinfo_lists_none : (t : List ℕ) → starts_with nat_eq t modinfo ≡ true → (path file : List ℕ) → Lists t path file → ⊥
modinfo_lists_none t word path file lists = package_no_modinfo t lists.word word

-- no other line is good
pub otherwise_bad : (t : List ℕ) → is_skipped t ≡ false → starts_with nat_eq t packagefile ≡ false → starts_with nat_eq t modinfo ≡ false → IsGood t → ⊥
otherwise_bad t passed word other (inl yes_) = false≢true (sym passed ∙ yes_)
otherwise_bad t passed word other (inr (inl told)) = false≢true (sym other ∙ told.word)
otherwise_bad t passed word other (inr (inr lists)) = false≢true (sym word ∙ lists.2.word)

pub no_text_bad : (t : List ℕ) → is_skipped t ≡ false → is_utf8 t ≡ false → IsGood t → ⊥
no_text_bad t passed text (inl yes_) = false≢true (sym passed ∙ yes_)
no_text_bad t passed text (inr (inl told)) = false≢true (sym text ∙ told.text)
no_text_bad t passed text (inr (inr lists)) = false≢true (sym text ∙ lists.2.text)

-- without a path or without a file the line is bad
pub empty_bad : (t : List ℕ) (i : ℕ) → starts_with nat_eq t packagefile ≡ true → i ≡ position_or_len is_equals_sign (drop 12 t)
    → (i ≡ 0) ⊎ (length (drop 12 t) ≤ i + 1) → IsGood t → ⊥
empty_bad t i word place none (inl passed) = package_not_passed t word passed
empty_bad t i word place none (inr (inl told)) = package_no_modinfo t word told.word
empty_bad t i word place (inl zero_) (inr (inr lists)) =
    let long : length lists.0 ≡ length (take (position_or_len is_equals_sign (drop 12 t)) (drop 12 t)) = ap length lists.2.path_is in
    let some : 0 < length lists.0 = lists.2.some_path in
    omega (arith, length-take (position_or_len is_equals_sign (drop 12 t)) (drop 12 t))
empty_bad t i word place (inr late) (inr (inr lists)) =
    let long : length lists.1 ≡ length (drop (position_or_len is_equals_sign (drop 12 t) + 1) (drop 12 t)) = ap length lists.2.file_is in
    let some : 0 < length lists.1 = lists.2.some_file in
    omega (arith, length-drop (position_or_len is_equals_sign (drop 12 t) + 1) (drop 12 t))

-- what stands behind an ASCII byte of a text is a text
pub behind : (t : List ℕ) (i : ℕ) → IsUtf8 t → i < length t → get_or t i 0 < 128 → IsUtf8 (drop (i + 1) t)
behind t i text inside low = IsUtf8-drop t (i + 1) text (IsCharBoundary-after_ascii t i text inside low)

pub rest_is_text : (t : List ℕ) → is_utf8 t ≡ true → starts_with nat_eq t packagefile ≡ true → IsUtf8 (drop 12 t)
rest_is_text t text word =
    let same : packagefile ≡ take 12 t = same_text packagefile (take 12 t) (sym word) in
    let long : 12 ≤ length t = let e : 12 ≡ length (take 12 t) = ap length same in omega (arith, length-take 12 t) in
    let last : get_or (take 12 t) 11 0 ≡ 32 = sym (ap (λ (l : List ℕ). get_or l 11 0) same) in
    let low : get_or t 11 0 ≡ 32 = grind (arith, get_or-take {A = ℕ}, last) in
    behind t 11 (IsUtf8-from_is_utf8 t text) (omega arith) (omega arith)

pub file_is_text : (t : List ℕ) (i : ℕ) → is_utf8 t ≡ true → starts_with nat_eq t packagefile ≡ true → i ≡ position_or_len is_equals_sign (drop 12 t) → i < length (drop 12 t)
    → IsUtf8 (drop (i + 1) (drop 12 t))
file_is_text t i text word place inside =
    let rest : List ℕ = drop 12 t in
    let within : position_or_len is_equals_sign rest < length rest = subst (λ (n : ℕ). n < length rest) place inside in
    let here : eqb (get_or rest (position_or_len is_equals_sign rest) 0) 61 ≡ true = passes_at_first is_equals_sign rest 0 within in
    let sign : get_or rest i 0 ≡ 61 = rw place (eqb-true _ _ here) in
    behind rest i (rest_is_text t text word) inside (omega arith)

-- the same of what the code cuts off
pub cut_is_text : (t rest file : List ℕ) (i : ℕ) → rest ≡ drop 12 t → file ≡ drop (i + 1) rest → is_utf8 t ≡ true → starts_with nat_eq t packagefile ≡ true
    → i ≡ position_or_len is_equals_sign rest → i < length rest → IsUtf8 file
cut_is_text t rest file i rest_is file_is text word place inside =
    let there : i ≡ position_or_len is_equals_sign (drop 12 t) = place ∙ ap (λ (l : List ℕ). position_or_len is_equals_sign l) rest_is in
    let within : i < length (drop 12 t) = subst (λ (l : List ℕ). i < length l) rest_is inside in
    let is : file ≡ drop (i + 1) (drop 12 t) = file_is ∙ ap (λ (l : List ℕ). drop (i + 1) l) rest_is in
    subst IsUtf8 (sym is) (file_is_text t i text word there within)

-- where both are there, the line lists them
pub package_lists : (t path file : List ℕ) (i : ℕ) → is_utf8 t ≡ true → starts_with nat_eq t packagefile ≡ true → i ≡ position_or_len is_equals_sign (drop 12 t)
    → 0 < i → i + 1 < length (drop 12 t) → path ≡ take i (drop 12 t) → file ≡ drop (i + 1) (drop 12 t) → Lists t path file
package_lists t path file i text word place some more path_is file_is = record {
  text = text;
  word = word;
  path_is = path_is ∙ ap (λ n. take n (drop 12 t)) place;
  file_is = file_is ∙ ap (λ n. drop (n + 1) (drop 12 t)) place;
  some_path = let long : length path ≡ length (take i (drop 12 t)) = ap length path_is in omega (arith, length-take i (drop 12 t));
  some_file = let long : length file ≡ length (drop (i + 1) (drop 12 t)) = ap length file_is in omega (arith, length-drop (i + 1) (drop 12 t));
}

-- one line more: it gives the path a file, or none and the path keeps what it had
pub more_last : (ls : List (List ℕ)) (n : ℕ) (path : List ℕ) (before now : Option (List ℕ)) → IsLastFile ls n path before
    → ((file : List ℕ) × Lists (line_at ls n) path file × (now ≡ Some file)) ⊎ (((file : List ℕ) → Lists (line_at ls n) path file → ⊥) × (now ≡ before))
    → IsLastFile ls (n + 1) path now
more_last ls n path before now had (inl (file, lists, is)) =
    let last : IsLastFile ls (n + 1) path (Some file) = record { line = n; inside = omega arith; lists = lists; later = λ k other above below found. absurd (omega arith) } in
    subst (IsLastFile ls (n + 1) path) (sym is) last
more_last ls n path None now had (inr (none, is)) =
    let last : IsLastFile ls (n + 1) path None = λ k file below found. elim (cases_order k n) [
      | inl same ↦ none file (subst (λ j. Lists (line_at ls j) path file) same found)
      | inr (inl less) ↦ had k file less found
      | inr (inr more) ↦ absurd (omega arith)
    ] in
    subst (IsLastFile ls (n + 1) path) (sym is) last
more_last ls n path (Some file) now had (inr (none, is)) =
    let last : IsLastFile ls (n + 1) path (Some file) = record {
      line = had.line;
      inside = let low : had.line < n = had.inside in omega arith;
      lists = had.lists;
      later = λ k other above below found. elim (cases_order k n) [
        | inl same ↦ none other (subst (λ j. Lists (line_at ls j) path other) same found)
        | inr (inl less) ↦ had.later k other above less found
        | inr (inr more) ↦ absurd (omega arith)
      ];
    } in
    subst (IsLastFile ls (n + 1) path) (sym is) last

-- the line lists one path, which a table then holds in front of what it held
pub takes_one : (t path file q : List ℕ) (before now : Option (List ℕ)) → Lists t path file → now ≡ cond (bytes_eq q path) (Some file) before
    → ((other : List ℕ) × Lists t q other × (now ≡ Some other)) ⊎ (((other : List ℕ) → Lists t q other → ⊥) × (now ≡ before))
takes_one t path file q before now lists is = by_case (bytes_eq q path) refl where
  by_case : (b : Bool) → bytes_eq q path ≡ b → ((other : List ℕ) × Lists t q other × (now ≡ Some other)) ⊎ (((other : List ℕ) → Lists t q other → ⊥) × (now ≡ before))
  by_case true e =
      let same : q ≡ path = (bytes_decides q path).0 e in
      inl (file, subst (λ (p : List ℕ). Lists t p file) (sym same) lists, is ∙ ap (λ b. cond b (Some file) before) e)
  by_case false e =
      inr (λ other found. false≢true (sym e ∙ (bytes_decides q path).1 (found.path_is ∙ sym lists.path_is)), is ∙ ap (λ b. cond b (Some file) before) e)

-- How far the lines have been taken: they are good, and each path has the last file that they give it.
pub record HasTaken (ls : List (List ℕ)) (rest : Option (Bor (List ℕ))) (number : ℕ) (file_at : List ℕ → Option (List ℕ)) : Type 0 where
  pub taken : ℕ
  pub read : HasRead ls (IsGoodLine ls) taken rest number
  pub files : (path : List ℕ) → IsLastFile ls taken path (file_at path)

pub start_taken : (text : Bor (List ℕ)) (file_at : List ℕ → Option (List ℕ)) → ((path : List ℕ) → file_at path ≡ None) → HasTaken (lines text.now) (Some text) 1 file_at
start_taken text file_at none =
    let ls : List (List ℕ) = lines text.now in
    record {
      taken = 0;
      read = start_read text (IsGoodLine ls);
      files = λ path. let empty : IsLastFile ls 0 path None = λ k file below lists. absurd (omega arith) in subst (IsLastFile ls 0 path) (sym (none path)) empty;
    }

-- the next line, without its blanks
next_taken : (ls : List (List ℕ)) (n : ℕ) (text : Bor (List ℕ)) (line t : List ℕ) (rest : Option (Bor (List ℕ))) (number : ℕ)
    → HasRead ls (IsGoodLine ls) n (Some text) number → IsCut text.now line rest → t ≡ trimmed_line line → t ≡ line_at ls n
next_taken ls n text line t rest number read cut is =
    let found : (n < length ls) × (get_or ls n [] ≡ line) × (drop (n + 1) ls ≡ left_lines rest) = next_line ls (IsGoodLine ls) n text line rest number read cut in
    is ∙ ap trimmed_line (sym found.1)

-- a good line more
pub more_taken : (ls : List (List ℕ)) (text : Bor (List ℕ)) (line t : List ℕ) (rest : Option (Bor (List ℕ))) (number next : ℕ) (before now : List ℕ → Option (List ℕ))
    → HasTaken ls (Some text) number before → IsCut text.now line rest → t ≡ trimmed_line line → IsGood t → next ≡ min (number + 1) (2 ^ 32 - 1)
    → ((path : List ℕ) → ((file : List ℕ) × Lists t path file × (now path ≡ Some file)) ⊎ (((file : List ℕ) → Lists t path file → ⊥) × (now path ≡ before path)))
    → HasTaken ls rest next now
more_taken ls text line t rest number next before now had cut is good next_is takes =
    let n : ℕ = had.taken in
    let here : t ≡ line_at ls n = next_taken ls n text line t rest number had.read cut is in
    record {
      taken = n + 1;
      read = read_good ls (IsGoodLine ls) n text line rest number next had.read cut (subst IsGood here good) next_is;
      files = λ path.
          let P : List ℕ → Type 0 = λ l. ((file : List ℕ) × Lists l path file × (now path ≡ Some file)) ⊎ (((file : List ℕ) → Lists l path file → ⊥) × (now path ≡ before path)) in
          more_last ls n path (before path) (now path) (had.files path) (subst P here (takes path));
    }

-- a bad line is the first one
pub wrong_taken : (ls : List (List ℕ)) (text : Bor (List ℕ)) (line t : List ℕ) (rest : Option (Bor (List ℕ))) (number : ℕ) (before : List ℕ → Option (List ℕ))
    → HasTaken ls (Some text) number before → IsCut text.now line rest → t ≡ trimmed_line line → (IsGood t → ⊥) → IsFirstBad ls (IsGoodLine ls) number
wrong_taken ls text line t rest number before had cut is bad =
    let here : t ≡ line_at ls had.taken = next_taken ls had.taken text line t rest number had.read cut is in
    read_bad ls (IsGoodLine ls) had.taken text line rest number had.read cut (λ good. bad (subst IsGood (sym here) good))

-- nothing is left
pub all_good : (ls : List (List ℕ)) (number : ℕ) (file_at : List ℕ → Option (List ℕ)) → HasTaken ls None number file_at → (k : ℕ) → k < length ls → IsGoodLine ls k
all_good ls number file_at had k inside =
    let whole : had.taken ≡ length ls = read_whole ls (IsGoodLine ls) had.taken number had.read in
    had.read.good k (omega arith)

pub all_files : (ls : List (List ℕ)) (number : ℕ) (file_at : List ℕ → Option (List ℕ)) → HasTaken ls None number file_at → (path : List ℕ) → IsLastFile ls (length ls) path (file_at path)
all_files ls number file_at had path =
    subst (λ n. IsLastFile ls n path (file_at path)) (read_whole ls (IsGoodLine ls) had.taken number had.read) (had.files path)

pub not_good : {P : Type 0} (good : Bool) → good ≡ false → (P → good ≡ true) → P → ⊥
not_good good no_ told p = false≢true (sym no_ ∙ told p)

-- the last line that lists a path is one, and it gives it one file
one_line : (ls : List (List ℕ)) (n : ℕ) (path file other : List ℕ) (j k : ℕ) → j ≡ k → Lists (line_at ls j) path file → Lists (line_at ls k) path other → file ≡ other
one_line ls n path file other j k same here there =
    let at : Lists (line_at ls k) path file = subst (λ i. Lists (line_at ls i) path file) same here in
    at.file_is ∙ sym there.file_is

pub one_file : (ls : List (List ℕ)) (n : ℕ) (path : List ℕ) (one other : Option (List ℕ)) → IsLastFile ls n path one → IsLastFile ls n path other → one ≡ other
one_file ls n path None None a b = refl
one_file ls n path None (Some file) a b = absurd (a b.line file b.inside b.lists)
one_file ls n path (Some file) None a b = absurd (b a.line file a.inside a.lists)
one_file ls n path (Some file) (Some other) a b = elim (cases_order a.line b.line) [
  | inl same ↦ ap (λ f. Some f) (one_line ls n path file other a.line b.line same a.lists b.lists)
  | inr (inl less) ↦ absurd (a.later b.line other less b.inside b.lists)
  | inr (inr more) ↦ absurd (b.later a.line file more a.inside a.lists)
]
