-- Tables of the numbers of the kinds of relocations: the standard one, and that of the lines of a file, of which there is one.
use Rattle.std.proofs.Common.{◌≡◌, ◌<◌, ◌≤◌, ◌+◌, ◌⊎◌, inl, inr, ℕ, zero, suc, false, List, [], ◌∷◌, length, map, get_or, refl, sym, ap, ◌∙◌, subst, arith, Option, Some, None}
use Rattle.std.proofs.lemmas.Bool.{false≢true, cases_order}
use Rattle.std.proofs.lemmas.List.{ext_get_or}
use Rattle.glk_base.specs.Lines.{line_at, is_skipped, AllGood, IsFirstBad}
use Rattle.glk_obj.specs.declared.kinds.RelocKind.{RelocKind}
use Rattle.glk_obj.specs.declared.kinds.RelocKind.TheVariants.{Addr, Call, PcRel, AddrOff, MethodOff, TlsLe, UseIface, UseIfaceMethod, UseNamedMethod, UseType, InitOrder, CallInd, Keep, Ignore}
use Rattle.glk_obj.specs.declared.numbers.Numbers.{Numbers}
use Rattle.glk_obj.specs.Numbers.{kinds, index_of, standard_number, name_of, greatest_number, number_in, kind_of, Gives, IsGiven, GivesNew, IsGood, IsStandard}
use Rattle.std.specs.Fmt.{decimal}
use Rattle.glk_base.specs.Lines.{first_word, after_word}
use Rattle.glk_obj.proofs.KindNumbers.{one_kind, one_number, kind_has, no_kind}
use Rattle.glk_obj.proofs.NumberLines.{one_listed}
use Rattle.glk_package.proofs.Decided.{IsDecided, all_of, one_of, negated, at_most, is_true, is_false, same_bytes, if_same, some_below}
use Rattle.glk_link.specs.Config.{AreNumbers, standard_numbers}
use Rattle.glk_link.proofs.LineSome.{good_or_bad}

pub numbers_once : (ls : List (List ℕ)) (a b : Numbers) → AreNumbers ls a → AreNumbers ls b → a ≡ b
numbers_once ls a b is too = one_listed ls a b is.listed is.only too.listed too.only

-- The standard table.

-- the indices of some kinds rise by one, from n on
abbrev AreFrom : ℕ → List RelocKind → Type 0
AreFrom n [] = Unit {0}
AreFrom n (k ∷ ks) = (index_of k ≡ n) × AreFrom (suc n) ks

kinds_rise : AreFrom 0 kinds
kinds_rise = (refl, (refl, (refl, (refl, (refl, (refl, (refl, (refl, (refl, (refl, (refl, (refl, (refl, (refl, tt))))))))))))))

-- the kind of an index
kind_from : (n : ℕ) (ks : List RelocKind) → AreFrom n ks → (i : ℕ) → i < length ks → (kind : RelocKind) × (index_of kind ≡ n + i)
kind_from n [] rise i l = absurd (omega (arith, l))
kind_from n (k ∷ ks) rise zero l = (k, omega (arith, rise.0))
kind_from n (k ∷ ks) rise (suc i) l = let later = kind_from (suc n) ks rise.1 i (omega (arith, l)) in (later.0, omega (arith, later.1))

-- tables that give each kind one number are one
same_tables : (a b : Numbers) → length a.numbers ≡ length kinds → length b.numbers ≡ length kinds → ((kind : RelocKind) → number_in a kind ≡ number_in b kind) → a ≡ b
same_tables a b long_a long_b same =
    ap (λ (n : List ℕ). let t : Numbers = record { numbers = n } in t) (ext_get_or 0 a.numbers b.numbers (long_a ∙ sym long_b) (λ i l.
    let k = kind_from 0 kinds kinds_rise i (subst (λ n. i < n) long_a l) in
    let at : index_of k.0 ≡ i = omega (arith, k.1) in
    subst (λ (j : ℕ). get_or a.numbers j 0 ≡ get_or b.numbers j 0) at (same k.0)))

standard_is : (kind : RelocKind) → number_in standard_numbers kind ≡ standard_number kind
standard_is Addr = refl
standard_is Call = refl
standard_is PcRel = refl
standard_is AddrOff = refl
standard_is MethodOff = refl
standard_is TlsLe = refl
standard_is UseIface = refl
standard_is UseIfaceMethod = refl
standard_is UseNamedMethod = refl
standard_is UseType = refl
standard_is InitOrder = refl
standard_is CallInd = refl
standard_is Keep = refl
standard_is Ignore = refl

pub standard_table : (table : Numbers) → IsStandard table → length table.numbers ≡ 14 → table ≡ standard_numbers
standard_table table is long = same_tables table standard_numbers long refl (λ kind. (kind_has table kind (standard_number kind) ((is kind (standard_number kind)).1 refl)).1 ∙ sym (standard_is kind))

-- Some table.

kind_at : ℕ → RelocKind
kind_at i = get_or kinds i Addr

at_index : (kind : RelocKind) → kind_at (index_of kind) ≡ kind
unfolding kind_at
at_index Addr = refl
at_index Call = refl
at_index PcRel = refl
at_index AddrOff = refl
at_index MethodOff = refl
at_index TlsLe = refl
at_index UseIface = refl
at_index UseIfaceMethod = refl
at_index UseNamedMethod = refl
at_index UseType = refl
at_index InitOrder = refl
at_index CallInd = refl
at_index Keep = refl
at_index Ignore = refl

index_low : (kind : RelocKind) → index_of kind < 14
index_low Addr = omega arith
index_low Call = omega arith
index_low PcRel = omega arith
index_low AddrOff = omega arith
index_low MethodOff = omega arith
index_low TlsLe = omega arith
index_low UseIface = omega arith
index_low UseIfaceMethod = omega arith
index_low UseNamedMethod = omega arith
index_low UseType = omega arith
index_low InitOrder = omega arith
index_low CallInd = omega arith
index_low Keep = omega arith
index_low Ignore = omega arith

-- some kind has a property that can be decided, or none
some_kind : (P : RelocKind → Type 0) → ((kind : RelocKind) → IsDecided (P kind)) → IsDecided ((kind : RelocKind) × P kind)
some_kind P each =
    if_same ((i : ℕ) × (i < 14) × P (kind_at i)) ((kind : RelocKind) × P kind)
    (λ h. (kind_at h.0, h.2)) (λ h. (index_of h.0, index_low h.0, subst P (sym (at_index h.0)) h.1))
    (some_below 14 (λ i. P (kind_at i)) (λ i. each (kind_at i)))

gives : (line : List ℕ) (kind : RelocKind) (number : ℕ) → IsDecided (Gives line kind number)
gives line kind number =
    if_same ((is_skipped line ≡ false) × ((first_word line ≡ name_of kind) × ((after_word line ≡ decimal number) × ((1 ≤ number) × (number ≤ greatest_number))))) (Gives line kind number)
    (λ h. record { read = h.0; name = h.1.0; digits = h.1.1.0; low = h.1.1.1.0; high = h.1.1.1.1 })
    (λ h. (h.read, (h.name, (h.digits, (h.low, h.high)))))
    (all_of _ _ (is_false (is_skipped line)) (all_of _ _ (same_bytes (first_word line) (name_of kind))
    (all_of _ _ (same_bytes (after_word line) (decimal number)) (all_of _ _ (at_most 1 number) (at_most number greatest_number)))))

given : (ls : List (List ℕ)) (n : ℕ) (kind : RelocKind) (number : ℕ) → IsDecided (IsGiven ls n kind number)
given ls n kind number =
    if_same ((k : ℕ) × (k < n) × Gives (line_at ls k) kind number) (IsGiven ls n kind number)
    (λ h. record { line = h.0; before = h.1; gives = h.2 }) (λ h. (h.line, h.before, h.gives))
    (some_below n (λ k. Gives (line_at ls k) kind number) (λ k. gives (line_at ls k) kind number))

-- some number has a property that can be decided, and that no number above the greatest has
some_number : (P : ℕ → Type 0) → ((n : ℕ) → IsDecided (P n)) → ((n : ℕ) → P n → n ≤ greatest_number) → IsDecided ((n : ℕ) × P n)
some_number P each low =
    if_same ((n : ℕ) × (n < 32768) × P n) ((n : ℕ) × P n)
    (λ h. (h.0, h.2)) (λ h. (h.0, (let l = low h.0 h.1 in omega arith), h.1)) (some_below 32768 P each)

-- what a line gives
given_by : (line : List ℕ) → IsDecided ((kind : RelocKind) × ((number : ℕ) × Gives line kind number))
given_by line = some_kind (λ kind. (number : ℕ) × Gives line kind number) (λ kind. some_number (Gives line kind) (gives line kind) (λ n h. h.high))

-- a line that gives a kind a number gives them anew, or not
gives_new : (ls : List (List ℕ)) (k : ℕ) (kind : RelocKind) (number : ℕ) → Gives (line_at ls k) kind number → IsDecided (GivesNew ls k kind number)
gives_new ls k kind number is =
    if_same ((((n : ℕ) × IsGiven ls k kind n) → ⊥) × (((other : RelocKind) × IsGiven ls k other number) → ⊥)) (GivesNew ls k kind number)
    (λ h. record { gives = is; new_name = λ n g. h.0 (n, g); new_number = λ other g. h.1 (other, g) })
    (λ h. (λ g. h.new_name g.0 g.1, λ g. h.new_number g.0 g.1))
    (all_of _ _ (negated _ (some_number (IsGiven ls k kind) (given ls k kind) (λ n g. g.gives.high))) (negated _ (some_kind (λ other. IsGiven ls k other number) (λ other. given ls k other number))))

good_line : (ls : List (List ℕ)) (k : ℕ) → IsDecided (IsGood ls k)
good_line ls k = one_of _ _ (is_true (is_skipped (line_at ls k))) (by (given_by (line_at ls k)))
  where
    same : (kind other : RelocKind) (number n : ℕ) → Gives (line_at ls k) kind number → GivesNew ls k other n → GivesNew ls k kind number
    same kind other number n is new =
        let kinds_same : other ≡ kind = one_kind (line_at ls k) other kind n number new.gives is in
        let numbers_same : n ≡ number = one_number (line_at ls k) other kind n number new.gives is in
        subst (λ (o : RelocKind). GivesNew ls k o number) kinds_same (subst (λ (m : ℕ). GivesNew ls k other m) numbers_same new)

    by : IsDecided ((kind : RelocKind) × ((number : ℕ) × Gives (line_at ls k) kind number)) → IsDecided ((kind : RelocKind) × (number : ℕ) × GivesNew ls k kind number)
    by (inr none) = inr (λ h. none (h.0, (h.1, h.2.gives)))
    by (inl (kind, (number, is))) =
        if_same (GivesNew ls k kind number) ((kind : RelocKind) × (number : ℕ) × GivesNew ls k kind number)
        (λ h. (kind, number, h)) (λ h. same kind h.0 number h.1 is h.2) (gives_new ls k kind number is)

module _ (ls : List (List ℕ)) (all : AllGood ls (IsGood ls)) where
  -- of two lines that give kinds one number the later is bad
  later : (i j : ℕ) (a b : RelocKind) (n : ℕ) → i < j → j < length ls → Gives (line_at ls i) a n → Gives (line_at ls j) b n → ⊥
  later i j a b n less inside first second = by (all j inside)
    where
      by : IsGood ls j → ⊥
      by (inl skipped) = false≢true (sym second.read ∙ skipped)
      by (inr (kind, number, new)) =
          let same : number ≡ n = one_number (line_at ls j) kind b number n new.gives second in
          new.new_number a (record { line = i; before = less; gives = subst (λ (m : ℕ). Gives (line_at ls i) a m) (sym same) first })

  one_given : (a b : RelocKind) (n : ℕ) → IsGiven ls (length ls) a n → IsGiven ls (length ls) b n → a ≡ b
  one_given a b n g h = elim (cases_order g.line h.line) [
    | inl same ↦ one_kind (line_at ls g.line) a b n n g.gives (subst (λ (k : ℕ). Gives (line_at ls k) b n) (sym same) h.gives)
    | inr (inl less) ↦ absurd (later g.line h.line a b n less h.before g.gives h.gives)
    | inr (inr more) ↦ absurd (later h.line g.line b a n more g.before h.gives g.gives)
  ]

  -- of two lines that give a kind numbers the later is bad
  later_name : (i j : ℕ) (kind : RelocKind) (m n : ℕ) → i < j → j < length ls → Gives (line_at ls i) kind m → Gives (line_at ls j) kind n → ⊥
  later_name i j kind m n less inside first second = by (all j inside)
    where
      by : IsGood ls j → ⊥
      by (inl skipped) = false≢true (sym second.read ∙ skipped)
      by (inr (other, number, new)) =
          let same : other ≡ kind = one_kind (line_at ls j) other kind number n new.gives second in
          new.new_name m (record { line = i; before = less; gives = subst (λ (k : RelocKind). Gives (line_at ls i) k m) (sym same) first })

  one_number_given : (kind : RelocKind) (m n : ℕ) → IsGiven ls (length ls) kind m → IsGiven ls (length ls) kind n → m ≡ n
  one_number_given kind m n g h = elim (cases_order g.line h.line) [
    | inl same ↦ one_number (line_at ls g.line) kind kind m n g.gives (subst (λ (k : ℕ). Gives (line_at ls k) kind n) (sym same) h.gives)
    | inr (inl less) ↦ absurd (later_name g.line h.line kind m n less h.before g.gives h.gives)
    | inr (inr more) ↦ absurd (later_name h.line g.line kind n m more g.before h.gives g.gives)
  ]

  -- the number that the lines give a kind, or 0
  number_given : (kind : RelocKind) → IsDecided ((n : ℕ) × IsGiven ls (length ls) kind n)
  number_given kind = some_number (IsGiven ls (length ls) kind) (given ls (length ls) kind) (λ n g. g.gives.high)

  abbrev chosen : (kind : RelocKind) → IsDecided ((n : ℕ) × IsGiven ls (length ls) kind n) → ℕ
  chosen kind (inl h) = h.0
  chosen kind (inr none) = 0

  abbrev number_of : RelocKind → ℕ
  number_of kind = chosen kind (number_given kind)

  is_given : (kind : RelocKind) → 0 < number_of kind → IsGiven ls (length ls) kind (number_of kind)
  is_given kind some = by (number_given kind) some
    where
      by : (d : IsDecided ((n : ℕ) × IsGiven ls (length ls) kind n)) → 0 < chosen kind d → IsGiven ls (length ls) kind (chosen kind d)
      by (inl h) low = h.1
      by (inr none) low = absurd (omega (arith, low))

  is_number : (kind : RelocKind) (n : ℕ) → IsGiven ls (length ls) kind n → number_of kind ≡ n
  is_number kind n g = by (number_given kind)
    where
      by : (d : IsDecided ((m : ℕ) × IsGiven ls (length ls) kind m)) → chosen kind d ≡ n
      by (inl h) = one_number_given kind h.0 n h.1 g
      by (inr none) = absurd (none (n, g))

  abbrev table : Numbers
  table = record { numbers = map number_of kinds }

  number_is : (kind : RelocKind) → number_in table kind ≡ number_of kind
  number_is Addr = refl
  number_is Call = refl
  number_is PcRel = refl
  number_is AddrOff = refl
  number_is MethodOff = refl
  number_is TlsLe = refl
  number_is UseIface = refl
  number_is UseIfaceMethod = refl
  number_is UseNamedMethod = refl
  number_is UseType = refl
  number_is InitOrder = refl
  number_is CallInd = refl
  number_is Keep = refl
  number_is Ignore = refl

  table_long : length table.numbers ≡ length kinds
  table_long = refl

  has : (kind : RelocKind) (number : ℕ) → kind_of table number ≡ Some kind → IsGiven ls (length ls) kind number
  has kind number e =
      let h = kind_has table kind number e in
      let same : number_of kind ≡ number = sym (number_is kind) ∙ h.1 in
      subst (λ (n : ℕ). IsGiven ls (length ls) kind n) same (is_given kind (omega (arith, h.0, same)))

  gets : (kind : RelocKind) (number : ℕ) → IsGiven ls (length ls) kind number → kind_of table number ≡ Some kind
  gets kind number g = by (kind_of table number) refl
    where
      by : (found : Option RelocKind) → kind_of table number ≡ found → kind_of table number ≡ Some kind
      by None e = absurd (no_kind table kind number (let l = g.gives.low in omega arith) e (number_is kind ∙ is_number kind number g))
      by (Some other) e = e ∙ ap Some (one_given other kind number (has other number e) g)

  pub numbers_some : (said : Numbers) × AreNumbers ls said
  numbers_some = (
    table,
    record {
      listed = λ kind number. (has kind number, gets kind number);
      only = record {
        size = table_long;
        given = λ kind some. subst (λ (n : ℕ). IsGiven ls (length ls) kind n) (sym (number_is kind)) (is_given kind (let e = number_is kind in omega (arith, some, e)));
      };
    },
  )

pub number_lines : (ls : List (List ℕ)) → AllGood ls (IsGood ls) ⊎ ((number : ℕ) × IsFirstBad ls (IsGood ls) number)
number_lines ls = good_or_bad ls (IsGood ls) (good_line ls)
