-- What a key does, by its parts; roots; and the name of the entry.
use Rattle.std.proofs.Common.{◌≡◌, ◌-◌, ◌<◌, ◌≤◌, ℕ, Bool, true, false, cond, List, [], ◌∷◌, ◌++◌, map, Option, Some, None, refl, ap, ◌∙◌, arith, append-nil, append_assoc}
use Rattle.std.specs.Prelude.{IfSome}
use Rattle.std.specs.List.{All, cons_option, filter_map, sum_by}
use Rattle.std.specs.Option.{option_and_then, option_or}
use Rattle.std.proofs.lemmas.List.Elements.{All-nil, All-cons, All-append}
use Rattle.glk_arena.specs.World.{objects_of}
use Rattle.glk_obj.specs.Records.{symbols}
use Rattle.glk_obj.specs.Symbols.{abi0, abi_internal}
use Rattle.glk_keys.proofs.OwnLaws.{own_asked}
use Rattle.glk_keys.specs.Keys.{find_key}
use Rattle.glk_keys.specs.Programs.{Program}
use Rattle.glk_keys.specs.Relocations.{relocs_of, auxes_of}
use Rattle.glk_keys.specs.RowLaws.{all_rows, own_count, row_of_own}
use Rattle.glk_keys.specs.Rows.{Row, row_at, row_count, unreachable_method, map_init_noop}
use Rattle.glk_obj.specs.Records.{Symbol}
use Rattle.glk_reach.specs.Chosen.{definition_row, is_defined, symbol_of}
use Rattle.glk_reach.specs.Effects.{effects_of, found_effects, reloc_read, reloc_reads, aux_read, aux_reads, method_effects}
use Rattle.glk_reach.specs.Graphs.{if_defined, find_defined, stand_in, entry_keys, roots_of}
use Rattle.glk_effects.specs.Roots.{some_list}
use Rattle.glk_effects.proofs.Within.{defined_within}

pub effects_none : (p : Program) (k : ℕ) → definition_row p k ≡ None → effects_of p k ≡ []
unfolding effects_of reloc_reads aux_reads method_effects symbol_of
effects_none p k e = rw e refl

pub effects_some : (p : Program) (k r : ℕ) → definition_row p k ≡ Some r
    → effects_of p k ≡ found_effects (map (reloc_read p k r) (relocs_of p r)) ++ method_effects p k ++ found_effects (map (aux_read p k r) (auxes_of p r))
unfolding effects_of reloc_reads aux_reads
effects_some p k r e = rw e refl

-- Roots are keys.

module _ (p : Program) where
  abbrev IsIn : ℕ → Type 0
  IsIn k = k < row_count p

  in_if : (b : Bool) (k : ℕ) → is_defined p k ≡ b → IfSome (cond b (Some k) None) IsIn
  in_if true k e = defined_within p k e
  in_if false k e = tt

  some_in : (o : Option ℕ) → IfSome (option_and_then (if_defined p) o) IsIn
  some_in (Some k) = in_if (is_defined p k) k refl
  some_in None = tt

  found_in : (name : List ℕ) (abi : ℕ) → IfSome (find_defined p name abi) IsIn
  found_in name abi = some_in (find_key p name abi)

  either_in : (a b : Option ℕ) → IfSome a IsIn → IfSome b IsIn → IfSome (option_or a b) IsIn
  either_in (Some k) b ha hb = ha
  either_in None b ha hb = hb

  stand_in_in : (name : List ℕ) → IfSome (stand_in p name) IsIn
  unfolding stand_in
  stand_in_in name = either_in (find_defined p name abi_internal) (find_defined p name abi0) (found_in name abi_internal) (found_in name abi0)

  more_in : {A : Type 0} (f : A → Option ℕ) (x : A) (xs : List A) (o : Option ℕ) → f x ≡ o → IfSome o IsIn → All IsIn (filter_map f xs) → All IsIn (filter_map f (x ∷ xs))
  more_in f x xs (Some k) e h all = rw e (All-cons IsIn k (filter_map f xs) h all)
  more_in f x xs None e h all = rw e all

  all_in : {A : Type 0} (f : A → Option ℕ) → ((x : A) → IfSome (f x) IsIn) → (xs : List A) → All IsIn (filter_map f xs)
  all_in f each [] = All-nil IsIn
  all_in f each (x ∷ xs) = more_in f x xs (f x) refl (each x) (all_in f each xs)

  entries_in : All IsIn (entry_keys p)
  unfolding entry_keys
  entries_in = all_in (find_defined p p.entry) (found_in p.entry) (abi0 ∷ abi_internal ∷ [])

  pub roots_in : (tasks : List ℕ) → All IsIn tasks → All IsIn (roots_of p tasks)
  unfolding roots_of
  roots_in tasks inside =
      All-append IsIn (entry_keys p ++ filter_map (stand_in p) (unreachable_method ∷ map_init_noop ∷ [])) tasks
      (All-append IsIn (entry_keys p) (filter_map (stand_in p) (unreachable_method ∷ map_init_noop ∷ [])) entries_in (all_in (stand_in p) stand_in_in (unreachable_method ∷ map_init_noop ∷ [])))
      inside

  -- The linker's own rows are the last ones, and the entry is the first of them.

  pub last_local : (last : ℕ) → last ≡ row_count p - 1 → (row_at p last).local ≡ last - sum_by symbols (objects_of p.world)
  last_local last e =
      let all = all_rows p in
      let own = own_count p in
      ap (λ (row : Row). row.local) (row_of_own p last (last - sum_by symbols (objects_of p.world)) (omega arith) (omega arith) refl)

  pub entry_at : (r : ℕ) → r ≡ sum_by symbols (objects_of p.world) → (row_at p r).symbol.name ≡ p.entry
  entry_at r e =
      let all = all_rows p in
      let own = own_count p in
      ap (λ (row : Row). row.symbol.name) (row_of_own p r 0 (omega arith) (omega arith) (omega arith))
      ∙ ap (λ (s : Symbol). s.name) (own_asked p 0 (omega arith))

  pub some_rows : 0 < row_count p
  some_rows = let all = all_rows p in let own = own_count p in omega arith

  pub own_last : sum_by symbols (objects_of p.world) ≤ row_count p - 1
  own_last = let all = all_rows p in let own = own_count p in omega arith

-- the linker's own rows begin there
pub own_begin : (p : Program) (rows last local : ℕ) → rows ≡ row_count p → last ≡ rows - 1 → local ≡ (row_at p last).local → last - local ≡ sum_by symbols (objects_of p.world)
own_begin p rows last local r l e =
    let is : (row_at p last).local ≡ last - sum_by symbols (objects_of p.world) = last_local p last (omega arith) in
    let below = own_last p in
    omega arith

-- two roots that are added one after the other
two_more : (a : List ℕ) (one other : Option ℕ) → (a ++ some_list one) ++ some_list other ≡ a ++ cons_option one (cons_option other [])
two_more a (Some x) (Some y) = append_assoc a (x ∷ []) (y ∷ [])
two_more a (Some x) None = append-nil (a ++ x ∷ [])
two_more a None (Some y) = ap (λ xs. xs ++ y ∷ []) (append-nil a)
two_more a None None = append-nil (a ++ [])

pub roots_are : (p : Program) (tasks a b c d : List ℕ) (one other : Option ℕ) → a ≡ entry_keys p → b ≡ a ++ some_list one → c ≡ b ++ some_list other → d ≡ c ++ tasks → one ≡ stand_in p unreachable_method → other ≡ stand_in p map_init_noop → d ≡ roots_of p tasks
unfolding roots_of
roots_are p tasks a b c d one other ea eb ec ed e1 e2 =
    ed ∙ ap (λ xs. xs ++ tasks)
    (ec ∙ ap (λ xs. xs ++ some_list other) eb ∙ two_more a one other
    ∙ ap (λ xs. xs ++ cons_option one (cons_option other [])) ea
    ∙ ap (λ (o : Option ℕ). entry_keys p ++ cons_option o (cons_option other [])) e1
    ∙ ap (λ (o : Option ℕ). entry_keys p ++ cons_option (stand_in p unreachable_method) (cons_option o [])) e2)

pub local_within : (p : Program) (rows local : ℕ) → rows ≡ row_count p → local ≡ (row_at p (rows - 1)).local → local ≤ rows - 1
local_within p rows local r e =
    let is : (row_at p (rows - 1)).local ≡ rows - 1 - sum_by symbols (objects_of p.world) = last_local p (rows - 1) (omega arith) in
    omega arith
