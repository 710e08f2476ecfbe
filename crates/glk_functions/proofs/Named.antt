-- Lists of auxes, one by one.
use Rattle.std.proofs.Common.{◌≡◌, ◌∙◌, ℕ, suc, ◌+◌, ◌-◌, ◌^◌, ◌<◌, ◌≤◌, List, [], ◌∷◌, ◌++◌, length, map, take, drop, get_or, Bool, true, false, eq-eqb, append_assoc, refl, ap, arith}
use Rattle.std.specs.Prelude.{◌==◌, if◌then◌else◌}
use Rattle.std.specs.List.{All}
use Rattle.std.proofs.lemmas.Bool.Decides.{nat_tests}
use Rattle.std.proofs.lemmas.List.{map_more, map-append, take_all}
use Rattle.std.proofs.lemmas.List.Elements.{All-head, All-tail, All-take, All-drop}
use Rattle.glk_obj.specs.Records.{Aux}
use Rattle.glk_obj.specs.Views.{aux_view}
use Rattle.glk_obj.specs.declared.records.AuxRec.{AuxRec}
use Rattle.glk_keys.specs.Programs.{Program}
use Rattle.glk_keys.specs.Relocations.{auxes_of, aux_target, no_aux}
use Rattle.glk_keys.specs.declared.target.Target.{Target}
use Rattle.glk_merge.specs.Mergings.{IsTargetKey}
use Rattle.glk_functions.specs.Auxes.{named_aux, named_auxes, named_count, first_named, all_named, names_as}
use Rattle.glk_functions.specs.declared.auxes.NamedAux.{NamedAux}

pub aux_is : (p : Program) (r : ℕ) (a : Aux) (v : AuxRec) (target : Target) → aux_view v ≡ a → target ≡ aux_target p r a → record { kind = v.kind; target = target } ≡ named_aux p r a
aux_is p r a v target e f = let k : v.kind ≡ a.kind = ap (λ (x : Aux). x.kind) e in cc

pub auxes_more : (p : Program) (r i : ℕ) (out now : List NamedAux) (x : NamedAux) → i < length (auxes_of p r) → out ≡ map (named_aux p r) (take i (auxes_of p r)) → now ≡ out ++ x ∷ []
    → x ≡ named_aux p r (get_or (auxes_of p r) i no_aux) → now ≡ map (named_aux p r) (take (i + 1) (auxes_of p r))
auxes_more p r i out now x low before after is = let m = map_more (named_aux p r) (auxes_of p r) i no_aux low in cc

pub auxes_all : (p : Program) (r i : ℕ) (out : List NamedAux) → length (auxes_of p r) ≤ i → out ≡ map (named_aux p r) (take i (auxes_of p r)) → out ≡ named_auxes p r
auxes_all p r i out past is = is ∙ ap (λ xs. map (named_aux p r) xs) (take_all i (auxes_of p r) past)

-- ---- the rest of a list

rest_is : {A : Type 0} (x : A) (xs : List A) → take (length (x ∷ xs) - 1) xs ≡ xs
rest_is x xs = take_all (length (x ∷ xs) - 1) xs (omega arith)

pub all_next : {A : Type 0} (P : A → Type 0) → (rest : List A) → All P rest → All P (take (length rest - 1) (drop 1 rest))
all_next P rest all = All-take P (length rest - 1) (drop 1 rest) (All-drop P 1 rest all)

-- an element more, of those that are to come
pub pushes : {A B : Type 0} (f : A → B) → (out now : List A) (x : A) (y : B) (ys whole : List B) → now ≡ out ++ x ∷ [] → f x ≡ y
    → map f out ++ y ∷ ys ≡ whole → map f now ++ ys ≡ whole
pushes f out now x y ys whole push same before =
    ap (λ xs. map f xs ++ ys) push ∙ ap (λ s. s ++ ys) (map-append f out (x ∷ [])) ∙ append_assoc (map f out) (f x ∷ []) ys
    ∙ ap (λ z. map f out ++ z ∷ ys) same ∙ before

pub pushes_same : {A : Type 0} (out now : List A) (x y : A) (ys whole : List A) → now ≡ out ++ x ∷ [] → x ≡ y
    → out ++ y ∷ ys ≡ whole → now ++ ys ≡ whole
pushes_same out now x y ys whole push same before =
    ap (λ s. s ++ ys) push ∙ append_assoc out (x ∷ []) ys ∙ ap (λ z. out ++ z ∷ ys) same ∙ before

-- ---- auxes of a kind

pub named_here : (kind : ℕ) (rest : List NamedAux) (d : NamedAux) → 1 ≤ length rest → (get_or rest 0 d).kind ≡ kind
    → all_named kind rest ≡ (get_or rest 0 d).target ∷ all_named kind (take (length rest - 1) (drop 1 rest))
named_here kind [] d some is = absurd (omega arith)
named_here kind (a ∷ rest) d some is =
    let e : (a.kind == kind) ≡ true = eq-eqb a.kind kind is in
    rw (rest_is a rest) (rw e refl)

pub named_later : (kind : ℕ) (rest : List NamedAux) (d : NamedAux) → 1 ≤ length rest → ((get_or rest 0 d).kind ≡ kind → ⊥)
    → all_named kind (take (length rest - 1) (drop 1 rest)) ≡ all_named kind rest
named_later kind [] d some is = absurd (omega arith)
named_later kind (a ∷ rest) d some is =
    let e : (a.kind == kind) ≡ false = grind (arith, nat_tests, is) in
    rw (rest_is a rest) (rw e refl)

few_if : (b : Bool) (kind : ℕ) (auxes : List NamedAux) → named_count kind auxes ≤ length auxes
    → (if b then suc (named_count kind auxes) else named_count kind auxes) ≤ suc (length auxes)
few_if true kind auxes few = omega (arith, few)
few_if false kind auxes few = omega (arith, few)

named_few : (kind : ℕ) (auxes : List NamedAux) → named_count kind auxes ≤ length auxes
named_few kind [] = omega arith
named_few kind (a ∷ auxes) = few_if (names_as kind a) kind auxes (named_few kind auxes)

pub count_fits : (kind : ℕ) (auxes rest : List NamedAux) (d : NamedAux) (count : ℕ) → count + named_count kind rest ≡ named_count kind auxes
    → 1 ≤ length rest → names_as kind (get_or rest 0 d) ≡ true → length auxes < 2 ^ 32 → count + 1 < 2 ^ 32
count_fits kind auxes [] d count whole some is few = absurd (omega arith)
count_fits kind auxes (a ∷ rest) d count whole some is few =
    let n : count + suc (named_count kind rest) ≡ named_count kind auxes = rw is at whole in
    omega (arith, n, named_few kind auxes, few)

key_if : (p : Program) (b : Bool) (s t : Target) → IsTargetKey p s → IsTargetKey p t → IsTargetKey p (if b then s else t)
key_if p true s t x y = x
key_if p false s t x y = y

pub first_key : (p : Program) (kind : ℕ) (auxes : List NamedAux) → All (λ aux. IsTargetKey p aux.target) auxes → IsTargetKey p (first_named kind auxes)
first_key p kind [] all = tt
first_key p kind (a ∷ auxes) all =
    let P : NamedAux → Type 0 = λ aux. IsTargetKey p aux.target in
    key_if p (names_as kind a) a.target (first_named kind auxes) (All-head P a auxes all) (first_key p kind auxes (All-tail P a auxes all))
