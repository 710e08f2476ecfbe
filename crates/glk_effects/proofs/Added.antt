-- Effects that are added one by one.
use Rattle.std.proofs.Common.{◌≡◌, ◌+◌, ◌<◌, ℕ, suc, List, [], ◌∷◌, ◌++◌, map, take, length, get_or, Option, Some, None, sym, ap, ◌∙◌, subst, arith, append-nil, append_assoc}
use Rattle.std.specs.Option.{option_and_then}
use Rattle.std.proofs.Math.Seq.{take-suc}
use Rattle.std.proofs.lemmas.List.{map-append, take_all}
use Rattle.std.proofs.lemmas.List.Elements.{filter_map-append, All-push, All-append, All-nil}
use Rattle.glk_closure.specs.Graph.{Effect}
use Rattle.glk_closure.specs.Views.{effect_view, IsWithin}
use Rattle.glk_closure.specs.declared.effect.Effect.{Effect as CodeEffect}
use Rattle.glk_readings.specs.Readings.{Reading}
use Rattle.glk_reach.specs.Effects.{found_of, found_effects}
use Rattle.glk_effects.specs.Views.{Appends}

pub none : (n : ℕ) (old : List CodeEffect) → Appends n old old []
none n old = record { items = sym (append-nil (map effect_view old)); within = All-nil (IsWithin n) }

pub push : (n : ℕ) (old new : List CodeEffect) (added : List Effect) (e : CodeEffect) → Appends n old new added → IsWithin n (effect_view e) → Appends n old (new ++ e ∷ []) (added ++ effect_view e ∷ [])
push n old new added e a inside = record {
  items = map-append effect_view new (e ∷ []) ∙ ap (λ xs. xs ++ effect_view e ∷ []) a.items ∙ append_assoc (map effect_view old) added (effect_view e ∷ []);
  within = All-push (IsWithin n) added (effect_view e) a.within inside;
}

pub both : (n : ℕ) (a b c : List CodeEffect) (x y : List Effect) → Appends n a b x → Appends n b c y → Appends n a c (x ++ y)
both n a b c x y one two = record {
  items = two.items ∙ ap (λ xs. xs ++ y) one.items ∙ append_assoc (map effect_view a) x y;
  within = All-append (IsWithin n) x y one.within two.within;
}

module _ {A : Type 0} (read : A → Option (Reading Effect)) (xs : List A) (d : A) (i : ℕ) (inside : i < length xs) where
  found_push : (e : Effect) → option_and_then found_of (read (get_or xs i d)) ≡ Some e → found_effects (map read (take (i + 1) xs)) ≡ found_effects (map read (take i xs)) ++ e ∷ []
  found_push e is = let n : i + 1 ≡ suc i = omega arith in rw (n, take-suc xs i d inside, map-append, filter_map-append) (simp is)

  found_skip : option_and_then found_of (read (get_or xs i d)) ≡ None → found_effects (map read (take (i + 1) xs)) ≡ found_effects (map read (take i xs))
  found_skip is = let n : i + 1 ≡ suc i = omega arith in rw (n, take-suc xs i d inside, map-append, filter_map-append) (simp (is, append-nil))

  module _ (n : ℕ) (old new : List CodeEffect) (a : Appends n old new (found_effects (map read (take i xs)))) where
    abbrev AppendsMore : List CodeEffect → Type 0
    AppendsMore after = Appends n old after (found_effects (map read (take (i + 1) xs)))

    pub add_found : (after : List CodeEffect) (e : CodeEffect) → after ≡ new ++ e ∷ [] → option_and_then found_of (read (get_or xs i d)) ≡ Some (effect_view e) → IsWithin n (effect_view e) → AppendsMore after
    add_found after e pushed is inside_keys =
        let P : List CodeEffect → Type 0 = AppendsMore in
        let Q : List Effect → Type 0 = λ added. Appends n old (new ++ e ∷ []) added in
        subst P (sym pushed) (subst Q (sym (found_push (effect_view e) is)) (push n old new (found_effects (map read (take i xs))) e a inside_keys))

    pub add_none : option_and_then found_of (read (get_or xs i d)) ≡ None → AppendsMore new
    add_none is =
        let Q : List Effect → Type 0 = λ added. Appends n old new added in
        subst Q (sym (found_skip is)) a

pub add_all : {A : Type 0} (read : A → Option (Reading Effect)) (xs : List A) (m n : ℕ) (old new : List CodeEffect) → m ≡ length xs → Appends n old new (found_effects (map read (take m xs))) → Appends n old new (found_effects (map read xs))
add_all read xs m n old new long a =
    let Q : List Effect → Type 0 = λ added. Appends n old new added in
    subst Q (ap (λ ys. found_effects (map read ys)) (take_all m xs (omega arith))) a

-- after none, all there are
pub from_none : (n : ℕ) (old new : List CodeEffect) (added : List Effect) → old ≡ [] → Appends n old new added → map effect_view new ≡ added
from_none n old new added e a = a.items ∙ ap (λ xs. map effect_view xs ++ added) e
