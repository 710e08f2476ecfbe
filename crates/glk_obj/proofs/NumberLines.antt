-- What a table of numbers has after some lines of a file, and what the next line does to it.
use Rattle.std.proofs.Common.{get_or, zero, suc, [], ◌∷◌, ◌≡◌, ◌≢◌, ◌+◌, ◌-◌, ◌<◌, ◌^◌, ◌∙◌, ◌⊎◌, ◌↔◌, inl, inr, ℕ, true, false, List, length, min, refl, ap, sym, subst, arith, eqb, eq-eqb, Option, Some, None}
use Rattle.std.proofs.lemmas.Bool.{false≢true, eqb-true}
use Rattle.std.proofs.lemmas.List.{get_or-set_same, get_or-set_other, length-set, ext_get_or}
use Rattle.std.proofs.lemmas.Bool.{cases_lt}
use denote.Ref.{Bor}
use Rattle.glk_base.specs.Lines.{lines, trimmed_line, is_skipped, line_at, IsCut, HasRead, IsFirstBad, AllGood}
use Rattle.glk_base.proofs.Cuts.{start_read, next_line, read_good, read_bad, read_whole, read_all}
use Rattle.glk_obj.specs.declared.kinds.RelocKind.{RelocKind}
use Rattle.glk_obj.specs.declared.numbers.Numbers.{Numbers}
use Rattle.glk_obj.specs.Numbers.{kinds, index_of, number_in, kind_of, Gives, IsGiven, IsGood, IsListed, HasNoOthers}
use Rattle.glk_obj.specs.NumberSteps.{Takes, Adds, GivesNothing, GivesOldKind, GivesOldNumber}
use Rattle.glk_obj.proofs.KindNumbers.{index_injective, one_kind, one_number, kind_has, no_kind}

-- the table has just the numbers that the first n lines give, and no number twice
pub record HasJust (table : Numbers) (ls : List (List ℕ)) (n : ℕ) : Type 0 where
  pub given : (kind : RelocKind) → 0 < number_in table kind → IsGiven ls n kind (number_in table kind)
  pub has : (kind : RelocKind) (number : ℕ) → IsGiven ls n kind number → number_in table kind ≡ number
  pub apart : (a b : RelocKind) → 0 < number_in table a → number_in table a ≡ number_in table b → a ≡ b
  pub size : length table.numbers ≡ length kinds

pub given_more : (ls : List (List ℕ)) (n : ℕ) (kind : RelocKind) (number : ℕ) → IsGiven ls n kind number → IsGiven ls (n + 1) kind number
given_more ls n kind number g = record { line = g.line; before = let h = g.before in omega arith; gives = g.gives }

pub given_here : (ls : List (List ℕ)) (n : ℕ) (kind : RelocKind) (number : ℕ) → Gives (line_at ls n) kind number → IsGiven ls (n + 1) kind number
given_here ls n kind number g = record { line = n; before = omega arith; gives = g }

given_low : (ls : List (List ℕ)) (n : ℕ) (kind : RelocKind) (number : ℕ) → IsGiven ls n kind number → 0 < number
given_low ls n kind number g = let h = g.gives.low in omega arith

not_equal : (m n : ℕ) → eqb m n ≡ false → m ≢ n
not_equal m n e = λ same. let yes_ : eqb m n ≡ true = eq-eqb m n same in cc

-- what n + 1 lines give is given by the first n or by the last
given_cases : (ls : List (List ℕ)) (n : ℕ) (kind : RelocKind) (number : ℕ) → IsGiven ls (n + 1) kind number → IsGiven ls n kind number ⊎ Gives (line_at ls n) kind number
given_cases ls n kind number g = elim (eqb g.line n) as (λ b. eqb g.line n ≡ b → IsGiven ls n kind number ⊎ Gives (line_at ls n) kind number) [
  | true ↦ λ e. let same : g.line ≡ n = eqb-true g.line n e in inr (subst (λ (k : ℕ). Gives (line_at ls k) kind number) same g.gives)
  | false ↦ λ e. inl (record { line = g.line; before = let apart = not_equal g.line n e in let h = g.before in omega arith; gives = g.gives })
] refl

-- no line is read, and the table is empty
pub just_none : (table : Numbers) (ls : List (List ℕ)) → ((kind : RelocKind) → number_in table kind ≡ 0) → length table.numbers ≡ length kinds → HasJust table ls 0
just_none table ls empty size = record {
  given = λ kind some. let e = empty kind in absurd (omega arith);
  has = λ kind number g. let h = g.before in absurd (omega arith);
  apart = λ a b some same. let e = empty a in absurd (omega arith);
  size = size;
}

-- a line is skipped
pub just_skipped : (table : Numbers) (ls : List (List ℕ)) (n : ℕ) → HasJust table ls n → is_skipped (line_at ls n) ≡ true → HasJust table ls (n + 1)
just_skipped table ls n t passed = record {
  given = λ kind some. given_more ls n kind _ (t.given kind some);
  has = λ kind number g. elim (given_cases ls n kind number g) [
    | inl before ↦ t.has kind number before
    | inr here ↦ absurd (false≢true (sym here.read ∙ passed))
  ];
  apart = t.apart;
  size = t.size;
}

-- a kind is the added one, or has the number that it had
same_or_other : (a b : RelocKind) → (a ≡ b) ⊎ (index_of a ≢ index_of b)
same_or_other a b = elim (eqb (index_of a) (index_of b)) as (λ t. eqb (index_of a) (index_of b) ≡ t → (a ≡ b) ⊎ (index_of a ≢ index_of b)) [
  | true ↦ λ e. inl (index_injective a b (eqb-true _ _ e))
  | false ↦ λ e. inr (not_equal _ _ e)
] refl

pub added_same : (table : Numbers) (line : List ℕ) (next : Numbers) → (h : Adds table line next) → number_in next h.kind ≡ h.number
added_same table line next h = rw h.next_is (get_or-set_same table.numbers (index_of h.kind) h.number 0 h.inside)

pub added_other : (table : Numbers) (line : List ℕ) (next : Numbers) → (h : Adds table line next) → (kind : RelocKind) → index_of kind ≢ index_of h.kind → number_in next kind ≡ number_in table kind
added_other table line next h kind other = rw h.next_is (get_or-set_other table.numbers (index_of h.kind) (index_of kind) h.number 0 other)

-- a line adds a number
pub just_added : (table : Numbers) (ls : List (List ℕ)) (n : ℕ) (next : Numbers) → HasJust table ls n → Adds table (line_at ls n) next → HasJust next ls (n + 1)
just_added table ls n next t h = record {
  given = λ kind some. elim (same_or_other kind h.kind) [
    | inl same ↦ subst (λ (k : RelocKind). IsGiven ls (n + 1) k (number_in next k)) (sym same) (rw (added_same table (line_at ls n) next h) (given_here ls n h.kind h.number h.gives))
    | inr other ↦
        let e : number_in next kind ≡ number_in table kind = added_other table (line_at ls n) next h kind other in
        let had : 0 < number_in table kind = omega (arith, e, some) in
        rw e (given_more ls n kind (number_in table kind) (t.given kind had))
  ];
  has = λ kind number g. elim (given_cases ls n kind number g) [
    | inl before ↦ elim (same_or_other kind h.kind) [
      | inl same ↦
          let old : number_in table kind ≡ number = t.has kind number before in
          let none : number_in table kind ≡ 0 = ap (number_in table) same ∙ h.new_kind in
          let low : 0 < number = given_low ls n kind number before in
          absurd (omega arith)
      | inr other ↦ added_other table (line_at ls n) next h kind other ∙ t.has kind number before
    ]
    | inr here ↦
        let same : kind ≡ h.kind = one_kind _ _ _ _ _ here h.gives in
        let equal : number ≡ h.number = one_number _ _ _ _ _ here h.gives in
        ap (number_in next) same ∙ added_same table (line_at ls n) next h ∙ sym equal
  ];
  apart = λ a b some same.
      let low : 0 < h.number = let l = h.gives.low in omega arith in
      elim (same_or_other a h.kind) [
        | inl first ↦ elim (same_or_other b h.kind) [
          | inl second ↦ first ∙ sym second
          | inr other ↦
              let is : number_in table b ≡ h.number = sym (added_other table (line_at ls n) next h b other) ∙ sym same ∙ ap (number_in next) first ∙ added_same table (line_at ls n) next h in
              absurd (no_kind table b h.number low h.new_number is)
        ]
        | inr other ↦
            let had : number_in next a ≡ number_in table a = added_other table (line_at ls n) next h a other in
            elim (same_or_other b h.kind) [
              | inl second ↦
                  let is : number_in table a ≡ h.number = sym had ∙ same ∙ ap (number_in next) second ∙ added_same table (line_at ls n) next h in
                  absurd (no_kind table a h.number low h.new_number is)
              | inr another ↦
                  let kept : number_in next b ≡ number_in table b = added_other table (line_at ls n) next h b another in
                  let positive : 0 < number_in table a = omega (arith, had, some) in
                  t.apart a b positive (sym had ∙ same ∙ kept)
            ]
      ];
  size = rw h.next_is (length-set table.numbers (index_of h.kind) h.number ∙ t.size);
}

-- the lines that are taken are good, and those that are refused are not
pub good_added : (table : Numbers) (ls : List (List ℕ)) (n : ℕ) (next : Numbers) → HasJust table ls n → Adds table (line_at ls n) next → IsGood ls n
good_added table ls n next t h = inr (
  h.kind,
  h.number,
  record {
    gives = h.gives;
    new_name = λ m g.
        let old : number_in table h.kind ≡ m = t.has h.kind m g in
        let none = h.new_kind in
        let low : 0 < m = given_low ls n h.kind m g in
        absurd (omega arith);
    new_number = λ other g. no_kind table other h.number (given_low ls n other h.number g) h.new_number (t.has other h.number g);
  },
)

pub bad_nothing : (ls : List (List ℕ)) (n : ℕ) → GivesNothing (line_at ls n) → IsGood ls n → ⊥
bad_nothing ls n h good = elim good [
  | inl passed ↦ false≢true (sym h.read ∙ passed)
  | inr new ↦ h.nothing new.0 new.1 new.2.gives
]

pub bad_kind : (table : Numbers) (ls : List (List ℕ)) (n : ℕ) → HasJust table ls n → GivesOldKind table (line_at ls n) → IsGood ls n → ⊥
bad_kind table ls n t h good = elim good [
  | inl passed ↦ false≢true (sym h.gives.read ∙ passed)
  | inr new ↦
      let same : new.0 ≡ h.kind = one_kind _ _ _ _ _ new.2.gives h.gives in
      let old = h.old in
      let some : 0 < number_in table h.kind = omega arith in
      new.2.new_name (number_in table h.kind) (subst (λ (k : RelocKind). IsGiven ls n k (number_in table h.kind)) (sym same) (t.given h.kind some))
]

pub bad_number : (table : Numbers) (ls : List (List ℕ)) (n : ℕ) → HasJust table ls n → GivesOldNumber table (line_at ls n) → IsGood ls n → ⊥
bad_number table ls n t h good = elim good [
  | inl passed ↦ false≢true (sym h.gives.read ∙ passed)
  | inr new ↦
      let same : new.1 ≡ h.number = one_number _ _ _ _ _ new.2.gives h.gives in
      let has : (0 < h.number) × (number_in table h.other ≡ h.number) = kind_has table h.other h.number h.old in
      let some : 0 < number_in table h.other = omega (arith, has.0, has.1) in
      new.2.new_number h.other (subst (λ (m : ℕ). IsGiven ls n h.other m) (has.1 ∙ sym same) (t.given h.other some))
]

-- how far the parse of a file has come
pub record Parsed (ls : List (List ℕ)) (table : Numbers) (rest : Option (Bor (List ℕ))) (number : ℕ) : Type 0 where
  pub read : ℕ
  pub lines_read : HasRead ls (IsGood ls) read rest number
  pub just : HasJust table ls read

pub parse_start : (text : Bor (List ℕ)) (table : Numbers) → ((kind : RelocKind) → number_in table kind ≡ 0) → length table.numbers ≡ length kinds → Parsed (lines text.now) table (Some text) 1
parse_start text table empty size = record { read = 0; lines_read = start_read text (IsGood (lines text.now)); just = just_none table (lines text.now) empty size }

-- the next line without its blanks
here : (ls : List (List ℕ)) (n : ℕ) (text : Bor (List ℕ)) (line field : List ℕ) (rest : Option (Bor (List ℕ))) (number : ℕ)
    → HasRead ls (IsGood ls) n (Some text) number → IsCut text.now line rest → field ≡ trimmed_line line → field ≡ line_at ls n
here ls n text line field rest number h c is = is ∙ ap trimmed_line (sym (next_line ls (IsGood ls) n text line rest number h c).1)

pub parse_taken : (ls : List (List ℕ)) (table next : Numbers) (text : Bor (List ℕ)) (line field : List ℕ) (rest : Option (Bor (List ℕ))) (number after : ℕ)
    → Parsed ls table (Some text) number → IsCut text.now line rest → field ≡ trimmed_line line → Takes table field (Some next) → after ≡ min (number + 1) (2 ^ 32 - 1)
    → Parsed ls next rest after
parse_taken ls table next text line field rest number after p c is takes after_is =
    let at : field ≡ line_at ls p.read = here ls p.read text line field rest number p.lines_read c is in
    let step : Takes table (line_at ls p.read) (Some next) = subst (λ (t : List ℕ). Takes table t (Some next)) at takes in
    elim step [
      | inl passed ↦ record {
        read = p.read + 1;
        lines_read = read_good ls (IsGood ls) p.read text line rest number after p.lines_read c (inl passed.0) after_is;
        just = subst (λ (t : Numbers). HasJust t ls (p.read + 1)) (sym passed.1) (just_skipped table ls p.read p.just passed.0);
      }
      | inr added ↦ record {
        read = p.read + 1;
        lines_read = read_good ls (IsGood ls) p.read text line rest number after p.lines_read c (good_added table ls p.read next p.just added) after_is;
        just = just_added table ls p.read next p.just added;
      }
    ]

pub parse_refused : (ls : List (List ℕ)) (table : Numbers) (text : Bor (List ℕ)) (line field : List ℕ) (rest : Option (Bor (List ℕ))) (number : ℕ)
    → Parsed ls table (Some text) number → IsCut text.now line rest → field ≡ trimmed_line line → Takes table field None
    → IsFirstBad ls (IsGood ls) number
parse_refused ls table text line field rest number p c is takes =
    let at : field ≡ line_at ls p.read = here ls p.read text line field rest number p.lines_read c is in
    let step : Takes table (line_at ls p.read) None = subst (λ (t : List ℕ). Takes table t None) at takes in
    read_bad ls (IsGood ls) p.read text line rest number p.lines_read c (elim step [
      | inl nothing ↦ bad_nothing ls p.read nothing
      | inr (inl old) ↦ bad_kind table ls p.read p.just old
      | inr (inr old) ↦ bad_number table ls p.read p.just old
    ])

pub parse_good : (ls : List (List ℕ)) (table : Numbers) (number : ℕ) → Parsed ls table None number → AllGood ls (IsGood ls)
parse_good ls table number p = read_all ls (IsGood ls) p.read number p.lines_read

-- the kind of a number that is given
kind_given : (table : Numbers) (ls : List (List ℕ)) (kind : RelocKind) (number : ℕ) → HasJust table ls (length ls) → IsGiven ls (length ls) kind number → kind_of table number ≡ Some kind
kind_given table ls kind number t g =
    let is : number_in table kind ≡ number = t.has kind number g in
    let low : 0 < number = given_low ls (length ls) kind number g in
    elim (kind_of table number) as (λ o. kind_of table number ≡ o → o ≡ Some kind) [
      | None ↦ λ none. absurd (no_kind table kind number low none is)
      | Some other ↦ λ found.
          let has : (0 < number) × (number_in table other ≡ number) = kind_has table other number found in
          let some : 0 < number_in table other = omega (arith, has.0, has.1) in
          ap Some (t.apart other kind some (has.1 ∙ sym is))
    ] refl

pub parse_kinds : (ls : List (List ℕ)) (table : Numbers) (last : ℕ) → Parsed ls table None last → (kind : RelocKind) (number : ℕ) → (kind_of table number ≡ Some kind) ↔ IsGiven ls (length ls) kind number
parse_kinds ls table last p kind number =
    let whole : p.read ≡ length ls = read_whole ls (IsGood ls) p.read last p.lines_read in
    let t : HasJust table ls (length ls) = subst (λ (n : ℕ). HasJust table ls n) whole p.just in (
      λ is.
          let has : (0 < number) × (number_in table kind ≡ number) = kind_has table kind number is in
          let some : 0 < number_in table kind = omega (arith, has.0, has.1) in
          subst (λ (m : ℕ). IsGiven ls (length ls) kind m) has.1 (t.given kind some),
      λ g. kind_given table ls kind number t g,
    )

pub parse_others : (ls : List (List ℕ)) (table : Numbers) (last : ℕ) → Parsed ls table None last → HasNoOthers ls table
parse_others ls table last p =
    let whole : p.read ≡ length ls = read_whole ls (IsGood ls) p.read last p.lines_read in
    record { size = p.just.size; given = λ kind some. subst (λ (n : ℕ). IsGiven ls n kind (number_in table kind)) whole (p.just.given kind some) }

-- the indices of some kinds rise by one, from n on
abbrev AreFrom : ℕ → List RelocKind → Type 0
AreFrom n [] = Unit {0}
AreFrom n (k ∷ ks) = (index_of k ≡ n) × AreFrom (suc n) ks

kinds_rise : AreFrom 0 kinds
kinds_rise = (refl, (refl, (refl, (refl, (refl, (refl, (refl, (refl, (refl, (refl, (refl, (refl, (refl, (refl, tt))))))))))))))

-- the kind of an index
kind_at : (n : ℕ) (ks : List RelocKind) → AreFrom n ks → (i : ℕ) → i < length ks → (kind : RelocKind) × (index_of kind ≡ n + i)
kind_at n [] rise i l = absurd (omega (arith, l))
kind_at n (k ∷ ks) rise zero l = (k, omega (arith, rise.0))
kind_at n (k ∷ ks) rise (suc i) l = let later = kind_at (suc n) ks rise.1 i (omega (arith, l)) in (later.0, omega (arith, later.1))

-- the lines of a file give one table
pub one_listed : (ls : List (List ℕ)) (a b : Numbers) → IsListed ls a → HasNoOthers ls a → IsListed ls b → HasNoOthers ls b → a ≡ b
one_listed ls a b lists_a only_a lists_b only_b =
    ap (λ (n : List ℕ). record { numbers = n }) (ext_get_or 0 a.numbers b.numbers (only_a.size ∙ sym only_b.size) each)
  where
    -- what one table has the other has
    has : (x y : Numbers) (kind : RelocKind) → HasNoOthers ls x → IsListed ls y → 0 < number_in x kind → number_in y kind ≡ number_in x kind
    has x y kind only lists some = (kind_has y kind (number_in x kind) ((lists kind (number_in x kind)).1 (only.given kind some))).1

    same : (kind : RelocKind) → number_in a kind ≡ number_in b kind
    same kind = elim (cases_lt 0 (number_in a kind)) [
      | inl some ↦ sym (has a b kind only_a lists_b some)
      | inr none ↦ elim (cases_lt 0 (number_in b kind)) [
        | inl some ↦ has b a kind only_b lists_a some
        | inr nothing ↦ omega (arith, none, nothing)
      ]
    ]

    each : (i : ℕ) → i < length a.numbers → get_or a.numbers i 0 ≡ get_or b.numbers i 0
    each i l =
        let k = kind_at 0 kinds kinds_rise i (subst (λ n. i < n) only_a.size l) in
        let at : index_of k.0 ≡ i = omega (arith, k.1) in
        subst (λ (j : ℕ). get_or a.numbers j 0 ≡ get_or b.numbers j 0) at (same k.0)
