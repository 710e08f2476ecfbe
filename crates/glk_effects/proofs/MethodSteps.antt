-- The methods of a type one by one, and their targets.
use Rattle.std.proofs.Common.{◌≡◌, ◌+◌, ◌<◌, ℕ, suc, Bool, true, false, cond, List, [], ◌∷◌, ◌++◌, take, length, get_or, Option, Some, None, inl, inr, refl, sym, ap, ◌∙◌, subst, arith}
use Rattle.std.specs.Prelude.{IfSome, slice_get}
use Rattle.std.specs.List.{All, filter_map, range_with_len}
use Rattle.std.specs.Option.{option_and_then}
use Rattle.std.proofs.Math.Seq.{take-suc}
use Rattle.std.proofs.lemmas.List.{length-take-le, take_all}
use Rattle.std.proofs.lemmas.List.Elements.{All-nil, All-cons}
use Rattle.std.proofs.lemmas.Option.{same_Some}
use Rattle.glk_closure.specs.Graph.{Effect}
use Rattle.glk_closure.specs.Views.{effect_view, AreBelow, IsWithin}
use Rattle.glk_closure.specs.declared.effect.Effect.{Effect as CodeEffect}
use Rattle.glk_keys.specs.Programs.{Program}
use Rattle.glk_keys.specs.Relocations.{relocs_of}
use Rattle.glk_keys.specs.Rows.{row_count}
use Rattle.glk_merge.specs.Mergings.{IsDefinitionRow}
use Rattle.glk_readings.specs.Symbols.{IsWithin as IsSymbolWithin}
use Rattle.glk_readings.specs.Triples.{target_at, triple_at, triple_from, triples_of, begins_triple}
use Rattle.glk_readings.specs.declared.symbols.Relocation.{Relocation}
use Rattle.glk_readings.specs.declared.symbols.TargetSymbol.{TargetSymbol}
use Rattle.glk_readings.specs.declared.symbols.TargetSymbol.TheVariants as symbol
use Rattle.glk_readings.specs.declared.triples.MethodTriple.{MethodTriple}
use Rattle.glk_reach.proofs.Targets.{nth_within}
use Rattle.glk_reach.specs.Chosen.{definition_row, relocations_of, row_relocations, target_key, is_type}
use Rattle.glk_reach.specs.Effects.{method_effect, method_effects, method_effects_from, triple_keys}
use Rattle.glk_effects.specs.Views.{Appends}
use Rattle.glk_effects.proofs.Added.{none, push}

module _ (p : Program) (k : ℕ) where
  effects_push : (a b : ℕ) (xs : List MethodTriple) (triple : MethodTriple) → a + length xs ≡ b → method_effects_from p k a (xs ++ triple ∷ []) ≡ method_effects_from p k a xs ++ method_effect p k b triple ∷ []
  effects_push a b [] triple e = let same : a ≡ b = omega arith in ap (λ j. method_effect p k j triple ∷ []) same
  effects_push a b (x ∷ xs) triple e = ap (λ later. method_effect p k a x ∷ later) (effects_push (a + 1) b xs triple (omega arith))

  module _ (triples : List MethodTriple) (d : MethodTriple) (j : ℕ) (inside : j < length triples) (n : ℕ) (old new : List CodeEffect) (before : Appends n old new (method_effects_from p k 0 (take j triples))) where
    pub add_method : (after : List CodeEffect) (e : CodeEffect) → after ≡ new ++ e ∷ [] → effect_view e ≡ method_effect p k j (get_or triples j d) → AreBelow n (triple_keys (get_or triples j d)) → Appends n old after (method_effects_from p k 0 (take (j + 1) triples))
    add_method after e pushed is below =
        let step : j + 1 ≡ suc j = omega arith in
        let long : length (take j triples) ≡ j = length-take-le j triples (omega arith) in
        let more : method_effects_from p k 0 (take (j + 1) triples) ≡ method_effects_from p k 0 (take j triples) ++ effect_view e ∷ [] =
        ap (λ m. method_effects_from p k 0 (take m triples)) step
        ∙ ap (λ xs. method_effects_from p k 0 xs) (take-suc triples j d inside)
        ∙ effects_push 0 j (take j triples) (get_or triples j d) (omega arith)
        ∙ ap (λ x. method_effects_from p k 0 (take j triples) ++ x ∷ []) (sym is) in
        let W : Effect → Type 0 = λ x. IsWithin n x in
        let P : List CodeEffect → Type 0 = λ xs. Appends n old xs (method_effects_from p k 0 (take (j + 1) triples)) in
        let Q : List Effect → Type 0 = λ added. Appends n old (new ++ e ∷ []) added in
        subst P (sym pushed) (subst Q (sym more) (push n old new (method_effects_from p k 0 (take j triples)) e before (subst W (sym is) below)))

  pub add_methods : (triples : List MethodTriple) (m n : ℕ) (old new : List CodeEffect) → m ≡ length triples → Appends n old new (method_effects_from p k 0 (take m triples)) → Appends n old new (method_effects_from p k 0 triples)
  add_methods triples m n old new long a =
      let Q : List Effect → Type 0 = λ added. Appends n old new added in
      subst Q (ap (λ xs. method_effects_from p k 0 xs) (take_all m triples (omega arith))) a

  pub no_methods : (n : ℕ) (old : List CodeEffect) → is_type p k ≡ false → Appends n old old (method_effects p k)
  unfolding method_effects
  no_methods n old e = rw e (none n old)

  pub all_methods : (n : ℕ) (old new : List CodeEffect) → is_type p k ≡ true → Appends n old new (method_effects_from p k 0 (triples_of (relocations_of p k))) → Appends n old new (method_effects p k)
  unfolding method_effects
  all_methods n old new e a = rw e a

-- The targets of triples.

key_below : (n : ℕ) (target : Option TargetSymbol) (t : ℕ) → IsSymbolWithin n target → target_key target ≡ Some t → t < n
key_below n None t h e = absurd (let bad : None ≡ Some t = e in cc)
key_below n (Some (symbol.Key s)) t h e = let P : ℕ → Type 0 = λ x. x < n in let same : s ≡ t = same_Some s t e in subst P same h
key_below n (Some (symbol.Missing pkg index)) t h e = absurd (let bad : None ≡ Some t = e in cc)

module _ (n : ℕ) (relocs : List Relocation) (within : (i : ℕ) (reloc : Relocation) → slice_get relocs i ≡ Some reloc → IsSymbolWithin n reloc.target) where
  target_within : (i : ℕ) (o : Option Relocation) → slice_get relocs i ≡ o → IsSymbolWithin n (option_and_then (λ reloc. reloc.target) o)
  target_within i (Some reloc) e = within i reloc e
  target_within i None e = tt

  at_within : (i : ℕ) → IsSymbolWithin n (target_at relocs i)
  at_within i = target_within i (slice_get relocs i) refl

  triple_below : (i : ℕ) → AreBelow n (triple_keys (triple_at relocs i))
  triple_below i t (inl e) = key_below n (target_at relocs i) t (at_within i) e
  triple_below i t (inr (inl e)) = key_below n (target_at relocs (i + 1)) t (at_within (i + 1)) e
  triple_below i t (inr (inr e)) = key_below n (target_at relocs (i + 2)) t (at_within (i + 2)) e

  abbrev TargetsBelow : MethodTriple → Type 0
  TargetsBelow triple = AreBelow n (triple_keys triple)

  below_if : (b : Bool) (i : ℕ) → IfSome (cond b (Some (triple_at relocs i)) None) TargetsBelow
  below_if true i = triple_below i
  below_if false i = tt

  from_below : (i : ℕ) → IfSome (triple_from relocs i) TargetsBelow
  unfolding triple_from
  from_below i = below_if (begins_triple relocs i) i

  found_below : (i : ℕ) (o : Option MethodTriple) (is : List ℕ) → triple_from relocs i ≡ o → All TargetsBelow (filter_map (triple_from relocs) is) → All TargetsBelow (filter_map (triple_from relocs) (i ∷ is))
  found_below i (Some triple) is e all =
      let P : Option MethodTriple → Type 0 = λ o. IfSome o TargetsBelow in
      rw e (All-cons TargetsBelow triple (filter_map (triple_from relocs) is) (subst P e (from_below i)) all)
  found_below i None is e all = rw e all

  all_below : (is : List ℕ) → All TargetsBelow (filter_map (triple_from relocs) is)
  all_below [] = All-nil TargetsBelow
  all_below (i ∷ is) = found_below i (triple_from relocs i) is refl (all_below is)

  pub triples_below : All TargetsBelow (triples_of relocs)
  unfolding triples_of
  triples_below = all_below (range_with_len 0 (length relocs))

-- the relocations of a key with a definition
pub key_relocations : (p : Program) (k r : ℕ) → definition_row p k ≡ Some r → relocations_of p k ≡ row_relocations p r
unfolding relocations_of
key_relocations p k r e = rw e refl

pub key_triples_below : (p : Program) (k r : ℕ) → definition_row p k ≡ Some r → IsDefinitionRow p r → All (λ triple. AreBelow (row_count p) (triple_keys triple)) (triples_of (relocations_of p k))
key_triples_below p k r e d =
    let P : List Relocation → Type 0 = λ relocs. All (λ triple. AreBelow (row_count p) (triple_keys triple)) (triples_of relocs) in
    subst P (sym (key_relocations p k r e)) (triples_below (row_count p) (row_relocations p r) (λ i reloc h. nth_within p r d (relocs_of p r) i reloc h))
