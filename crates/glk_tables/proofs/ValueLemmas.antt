-- The first range whose end lies past an offset, and callers.
use Rattle.std.proofs.Common.{◌≡◌, ◌∙◌, ℕ, zero, suc, ◌<◌, ◌≤◌, List, [], ◌∷◌, length, get_or, Option, None, Some, true, false, ℤ, pos, negsuc, refl, sym, ap, inl, inr, arith}
use Rattle.std.specs.Prelude.{nat_lt}
use Rattle.std.proofs.lemmas.Bool.{cases_lt}
use Rattle.std.proofs.lemmas.List.{get_or_past}
use Rattle.glk_pcval.specs.Table.{value_in, value_of}
use Rattle.glk_obj.specs.FuncInfos.{node_count, node_at}
use Rattle.glk_tables.specs.Calls.{node_of, caller, is_long, any_below}
use Rattle.glk_tables.proofs.ChainLemmas.{long_same, any_same}
use Rattle.glk_tables.specs.Chains.{link, AreCallers, AreInside}

pub value_here : (xs : List (ℤ × ℕ)) (off i : ℕ) → i < length xs → ((j : ℕ) → j < i → (get_or xs j (pos 0, 0)).1 ≤ off) → off < (get_or xs i (pos 0, 0)).1
    → value_in xs off ≡ Some (get_or xs i (pos 0, 0)).0
value_here [] off i inside below above = absurd (omega arith)
value_here (x ∷ xs) off zero inside below above = let here : nat_lt off x.1 ≡ true = grind (arith, above) in rw here refl
value_here (x ∷ xs) off (suc i) inside below above =
    let low : x.1 ≤ off = below 0 (omega arith) in
    let past : nat_lt off x.1 ≡ false = grind (arith, low) in
    rw past (value_here xs off i (omega arith) (λ j less. below (suc j) (omega arith)) above)

pub value_nowhere : (xs : List (ℤ × ℕ)) (off : ℕ) → ((j : ℕ) → j < length xs → (get_or xs j (pos 0, 0)).1 ≤ off) → ◌≡◌ {A = Option ℤ} None (value_in xs off)
value_nowhere [] off below = refl
value_nowhere (x ∷ xs) off below =
    let low : x.1 ≤ off = below 0 (omega arith) in
    let past : nat_lt off x.1 ≡ false = grind (arith, low) in
    rw past (value_nowhere xs off (λ j less. below (suc j) (omega arith)))

-- a node is below their number
node_inside : (count : ℕ) (v : Option ℤ) (j : ℕ) → node_of count v ≡ Some j → j < count
node_inside count None j is = absurd (let bad : ◌≡◌ {A = Option ℕ} None (Some j) = is in cc)
node_inside count (Some (negsuc b)) j is = absurd (let bad : ◌≡◌ {A = Option ℕ} None (Some j) = is in cc)
node_inside count (Some (pos k)) j is = elim (cases_lt k count) [
  | inl less ↦
      let here : nat_lt k count ≡ true = grind (arith, less) in
      let e : Some k ≡ Some j = rw here at is in
      let same : k ≡ j = cc in omega arith
  | inr more ↦
      let here : nat_lt k count ≡ false = grind (arith, more) in
      absurd (let bad : ◌≡◌ {A = Option ℕ} None (Some j) = rw here at is in cc)
]

caller_inside : (info pcinline : List ℕ) (k j : ℕ) → caller info pcinline k ≡ Some j → j < node_count info
unfolding caller
caller_inside info pcinline k j is = node_inside (node_count info) (value_of pcinline (node_at info k).parent_pc) j is

pub callers_inside : (info pcinline : List ℕ) (callers : List (Option ℕ)) → AreCallers info pcinline callers → AreInside callers
callers_inside info pcinline callers are k j is = elim (cases_lt k (length callers)) [
  | inl less ↦ omega (arith, are.count, caller_inside info pcinline k j (sym (are.each k (omega (arith, are.count))) ∙ is))
  | inr more ↦ absurd (let bad : ◌≡◌ {A = Option ℕ} None (Some j) = sym (get_or_past callers k None more) ∙ is in cc)
]

-- the caller by the value where the node was called
pub caller_is : (info pcinline : List ℕ) (k : ℕ) (v : Option ℤ) (pc : ℤ) → pc ≡ (node_at info k).parent_pc → v ≡ value_of pcinline pc
    → node_of (node_count info) v ≡ caller info pcinline k
unfolding caller
caller_is info pcinline k v pc at is = ap (node_of (node_count info)) (is ∙ ap (value_of pcinline) at)

-- the list of callers has a chain that is too long where the nodes have
pub long_callers : (info pcinline : List ℕ) (callers : List (Option ℕ)) → AreCallers info pcinline callers
    → any_below (is_long (link callers)) (length callers) ≡ any_below (is_long (caller info pcinline)) (node_count info)
long_callers info pcinline callers are =
    any_same (is_long (link callers)) (is_long (caller info pcinline)) (length callers)
    (λ k below. long_same (link callers) (caller info pcinline) (length callers) (λ j less. are.each j (omega (arith, are.count))) (callers_inside info pcinline callers are) k below)
    ∙ ap (any_below (is_long (caller info pcinline))) are.count
