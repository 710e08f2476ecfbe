-- A chain of steps that give one answer each gives one answer.
use Rattle.std.proofs.Common.{◌≡◌, ◌⊎◌, inl, inr, refl, sym, ◌∙◌, subst, ap, List, [], ◌∷◌, Ok, Err}
use Rattle.std.specs.Prelude.{Result}
use Rattle.std.specs.Result.{IsErrAnd}
use Rattle.glk_cause.specs.declared.cause.Cause.{Cause}
use Rattle.glk_base.specs.declared.fault.Fault.{Fault}
use Rattle.glk_base.specs.declared.fault.Fault.TheVariants as fault
use Rattle.glk_cause.specs.Chain.{Then, stops, goes_on, Demands, fails, holds, Gives, gives, Finds, finds, clear, Along, ends, refuses, refuses_later, takes, IsOneAt, IsOne, IsSomeAt, Answers}

-- answers of a step
abbrev given : {B : Type 0} → B → Result B Cause
given b = Ok b

abbrev refused : {B : Type 0} → Cause → Result B Cause
refused c = Err c

same_value : {B : Type 0} (a b : B) → given a ≡ given b → a ≡ b
same_value a b e = cc

same_cause : {B : Type 0} (a b : Cause) → refused {B = B} a ≡ refused {B = B} b → a ≡ b
same_cause a b e = cc

clash : {B : Type 0} (a : B) (b : Cause) → given a ≡ refused {B = B} b → ⊥
clash a b e = cc

-- One answer.

pub then_one : {A B C : Type 0} {S : A → Result B Cause → Type 0} {T : B → Result C Cause → Type 0} (a : A) → IsOneAt S a → ((b : B) → S a (Ok b) → IsOneAt T b) → IsOneAt (Then S T) a
then_one {A} {B} {C} {S} {T} a one next x y (stops r s) (stops q t) = ap (λ c. refused {B = C} c) (same_cause {B = B} r q (one (Err r) (Err q) s t))
then_one {A} {B} {C} {S} {T} a one next x y (stops r s) (goes_on c y1 t u) = absurd (clash c r (one (Ok c) (Err r) t s))
then_one {A} {B} {C} {S} {T} a one next x y (goes_on b x1 s u) (stops q t) = absurd (clash b q (one (Ok b) (Err q) s t))
then_one {A} {B} {C} {S} {T} a one next x y (goes_on b x1 s u) (goes_on c y1 t v) =
    let P : B → Type 0 = λ d. T d y in
    next b s x y u (subst P (same_value c b (one (Ok c) (Ok b) t s)) v)

pub demands_one : {A : Type 0} {P : A → Type 0} {refusal : A → Cause} → IsOne (Demands P refusal)
demands_one a x y (fails n) (fails m) = refl
demands_one a x y (fails n) (holds h) = absurd (n h)
demands_one a x y (holds h) (fails n) = absurd (n h)
demands_one a x y (holds h) (holds k) = refl

pub gives_one : {A B : Type 0} {R : A → B → Type 0} (a : A) → ((b c : B) → R a b → R a c → b ≡ c) → IsOneAt (Gives R) a
gives_one a one x y (gives b h) (gives c k) = ap (λ d. given d) (one b c h k)

pub finds_one : {A : Type 0} {R : A → Cause → Type 0} (a : A) → ((c d : Cause) → R a c → R a d → c ≡ d) → IsOneAt (Finds R) a
finds_one {A} {R} a one x y (finds c h) (finds d k) = ap (λ e. refused {B = A} e) (one c d h k)
finds_one a one x y (finds c h) (clear none) = absurd (none c h)
finds_one a one x y (clear none) (finds d k) = absurd (none d k)
finds_one a one x y (clear none) (clear too) = refl

-- a step that is a function
pub function_one : {A B : Type 0} (f : A → Result B Cause) → IsOne (λ a answer. answer ≡ f a)
function_one f a x y e k = e ∙ sym k

-- Lists.

module _ {St A B : Type 0} {S : St → A → Result (St × B) Cause → Type 0} where
  pub along_one : ((s : St) → IsOne (S s)) → (s : St) → IsOne (Along S s)
  along_one one s [] x y (ends s0) (ends s1) = refl
  along_one one s (a ∷ later) x y (refuses s0 a0 l0 r h) (refuses s1 a1 l1 q k) =
      ap (λ c. refused {B = List B} c) (same_cause {B = St × B} r q (one s a (Err r) (Err q) h k))
  along_one one s (a ∷ later) x y (refuses s0 a0 l0 r h) (refuses_later s1 t a1 b l1 q k u) = absurd (clash (t, b) r (one s a (Ok (t, b)) (Err r) k h))
  along_one one s (a ∷ later) x y (refuses s0 a0 l0 r h) (takes s1 t a1 b l1 rest k u) = absurd (clash (t, b) r (one s a (Ok (t, b)) (Err r) k h))
  along_one one s (a ∷ later) x y (refuses_later s0 t a0 b l0 r h u) (refuses s1 a1 l1 q k) = absurd (clash (t, b) q (one s a (Ok (t, b)) (Err q) h k))
  along_one one s (a ∷ later) x y (refuses_later s0 t a0 b l0 r h u) (refuses_later s1 w a1 c l1 q k v) =
      let same = same_value (w, c) (t, b) (one s a (Ok (w, c)) (Ok (t, b)) k h) in
      let P : St → Type 0 = λ d. Along S d later (Err q) in
      along_one one t later (Err r) (Err q) u (subst P (ap (λ p. p.0) same) v)
  along_one one s (a ∷ later) x y (refuses_later s0 t a0 b l0 r h u) (takes s1 w a1 c l1 rest k v) =
      let same = same_value (w, c) (t, b) (one s a (Ok (w, c)) (Ok (t, b)) k h) in
      let P : St → Type 0 = λ d. Along S d later (Ok rest) in
      absurd (clash rest r (along_one one t later (Ok rest) (Err r) (subst P (ap (λ p. p.0) same) v) u))
  along_one one s (a ∷ later) x y (takes s0 t a0 b l0 rest h u) (refuses s1 a1 l1 q k) = absurd (clash (t, b) q (one s a (Ok (t, b)) (Err q) h k))
  along_one one s (a ∷ later) x y (takes s0 t a0 b l0 rest h u) (refuses_later s1 w a1 c l1 q k v) =
      let same = same_value (w, c) (t, b) (one s a (Ok (w, c)) (Ok (t, b)) k h) in
      let P : St → Type 0 = λ d. Along S d later (Err q) in
      absurd (clash rest q (along_one one t later (Ok rest) (Err q) u (subst P (ap (λ p. p.0) same) v)))
  along_one one s (a ∷ later) x y (takes s0 t a0 b l0 rest h u) (takes s1 w a1 c l1 more k v) =
      let same = same_value (w, c) (t, b) (one s a (Ok (w, c)) (Ok (t, b)) k h) in
      let P : St → Type 0 = λ d. Along S d later (Ok more) in
      let tail = same_value rest more (along_one one t later (Ok rest) (Ok more) u (subst P (ap (λ p. p.0) same) v)) in
      ap (λ l. given l) (ap (λ p. p.1 ∷ rest) (sym same) ∙ ap (λ l. c ∷ l) tail)

-- What an answer says of the steps.

pub then_given : {A B C : Type 0} {S : A → Result B Cause → Type 0} {T : B → Result C Cause → Type 0} (a : A) (c : C) → Then S T a (Ok c) → (b : B) × S a (Ok b) × T b (Ok c)
then_given {A} {B} {C} {S} {T} a c h = go (Ok c) h refl
  where
    go : (answer : Result C Cause) → Then S T a answer → answer ≡ Ok c → (b : B) × S a (Ok b) × T b (Ok c)
    go answer (stops r k) e = absurd (clash c r (sym e))
    go answer (goes_on b x k u) e = (b, k, let P : Result C Cause → Type 0 = λ r. T b r in subst P e u)

pub demands_given : {A : Type 0} {P : A → Type 0} {refusal : A → Cause} (a b : A) → Demands P refusal a (Ok b) → (a ≡ b) × P b
demands_given {A} {P} {refusal} a b h = go (Ok b) h refl
  where
    go : (answer : Result A Cause) → Demands P refusal a answer → answer ≡ Ok b → (a ≡ b) × P b
    go answer (fails n) e = absurd (clash b (refusal a) (sym e))
    go answer (holds p) e = (same_value a b e, subst P (same_value a b e) p)

pub gives_given : {A B : Type 0} {R : A → B → Type 0} (a : A) (b : B) → Gives R a (Ok b) → R a b
gives_given {A} {B} {R} a b h = go (Ok b) h refl
  where
    go : (answer : Result B Cause) → Gives R a answer → answer ≡ Ok b → R a b
    go answer (gives c k) e = let P : B → Type 0 = λ d. R a d in subst P (same_value c b e) k

pub finds_given : {A : Type 0} {R : A → Cause → Type 0} (a b : A) → Finds R a (Ok b) → a ≡ b
finds_given {A} {R} a b h = go (Ok b) h refl
  where
    go : (answer : Result A Cause) → Finds R a answer → answer ≡ Ok b → a ≡ b
    go answer (finds c k) e = absurd (clash b c (sym e))
    go answer (clear none) e = same_value a b e

-- At least one answer.

pub then_some : {A B C : Type 0} {S : A → Result B Cause → Type 0} {T : B → Result C Cause → Type 0} (a : A) → IsSomeAt S a → ((b : B) → S a (Ok b) → IsSomeAt T b) → IsSomeAt (Then S T) a
then_some a (Err refusal, h) next = (Err refusal, stops refusal h)
then_some a (Ok b, h) next = let k = next b h in (k.0, goes_on b k.0 h k.1)

pub demands_some : {A : Type 0} {P : A → Type 0} {refusal : A → Cause} (a : A) → P a ⊎ (P a → ⊥) → IsSomeAt (Demands P refusal) a
demands_some a (inl h) = (Ok a, holds h)
demands_some {A} {P} {refusal} a (inr n) = (Err (refusal a), fails n)

pub gives_some : {A B : Type 0} {R : A → B → Type 0} (a : A) → (b : B) × R a b → IsSomeAt (Gives R) a
gives_some a (b, h) = (Ok b, gives b h)

pub finds_some : {A : Type 0} {R : A → Cause → Type 0} (a : A) → ((refusal : Cause) × R a refusal) ⊎ ((refusal : Cause) → R a refusal → ⊥) → IsSomeAt (Finds R) a
finds_some a (inl (refusal, h)) = (Err refusal, finds refusal h)
finds_some a (inr none) = (Ok a, clear none)

pub function_some : {A B : Type 0} (f : A → Result B Cause) (a : A) → IsSomeAt (λ from answer. answer ≡ f from) a
function_some f a = (f a, refl)

pub along_some : {St A B : Type 0} {S : St → A → Result (St × B) Cause → Type 0} → ((s : St) (a : A) → IsSomeAt (S s) a) → (s : St) (xs : List A) → IsSomeAt (Along S s) xs
along_some each s [] = (Ok [], ends s)
along_some {St} {A} {B} {S} each s (a ∷ later) = first (each s a) (λ t. along_some each t later)
  where
    rest : (t : St) (b : B) → S s a (Ok (t, b)) → IsSomeAt (Along S t) later → IsSomeAt (Along S s) (a ∷ later)
    rest t b h (Err refusal, k) = (Err refusal, refuses_later s t a b later refusal h k)
    rest t b h (Ok bs, k) = (Ok (b ∷ bs), takes s t a b later bs h k)

    first : IsSomeAt (S s) a → ((t : St) → IsSomeAt (Along S t) later) → IsSomeAt (Along S s) (a ∷ later)
    first (Err refusal, h) more = (Err refusal, refuses s a later refusal h)
    first (Ok (t, b), h) more = rest t b h (more t)

-- What a call answers that goes through a chain.

module _ {A B C D E : Type 0} (S : A → Result B Cause → Type 0) (T : B → Result C Cause → Type 0) (a : A) (w : E → C) where
  pub stopped : (v : D → B) (e : Fault Cause) → Answers (S a) v (Err e) → Answers (Then S T a) w (Err e)
  stopped v (fault.Bad refusal) h = stops refusal h
  stopped v fault.OutOfMemory h = tt

module _ {A B C E : Type 0} (S : A → Result B Cause → Type 0) (T : B → Result C Cause → Type 0) (a : A) (w : E → C) where
  pub went_on : (b : B) (r : Result E (Fault Cause)) → S a (Ok b) → Answers (T b) w r → Answers (Then S T a) w r
  went_on b (Ok c) s h = goes_on b _ s h
  went_on b (Err (fault.Bad refusal)) s h = goes_on b _ s h
  went_on b (Err fault.OutOfMemory) s h = tt

-- What holds of all refusals of two steps holds of all refusals of the chain.

abbrev pub RefusesOnly : {A B : Type 0} → (Cause → Type 0) → (A → Result B Cause → Type 0) → Type 0
RefusesOnly {A} {B} P S = (a : A) (refusal : Cause) → S a (Err refusal) → P refusal

pub then_only : {A B C : Type 0} {S : A → Result B Cause → Type 0} {T : B → Result C Cause → Type 0} (P : Cause → Type 0) → RefusesOnly P S → RefusesOnly P T → RefusesOnly P (Then S T)
then_only {A} {B} {C} {S} {T} P s t a refusal h = go (Err refusal) h refl
  where
    go : (answer : Result C Cause) → Then S T a answer → answer ≡ Err refusal → P refusal
    go answer (stops r k) e = subst P (same_cause {B = C} r refusal e) (s a r k)
    go answer (goes_on b x k u) e = let Q : Result C Cause → Type 0 = λ r. T b r in t b refusal (subst Q e u)

pub demands_only : {A : Type 0} {Q : A → Type 0} {refusal : A → Cause} (P : Cause → Type 0) → ((a : A) → P (refusal a)) → RefusesOnly P (Demands Q refusal)
demands_only {A} {Q} {refusal} P each a r h = go (Err r) h refl
  where
    go : (answer : Result A Cause) → Demands Q refusal a answer → answer ≡ Err r → P r
    go answer (fails n) e = subst P (same_cause {B = A} (refusal a) r e) (each a)
    go answer (holds q) e = absurd (clash a r e)

-- A `?` hands the error on.
pub exits : {B : Type 0} (P : Result B (Fault Cause) → Type 0) (r : Result B (Fault Cause)) (e : Fault Cause) → IsErrAnd r (λ f. f ≡ e) → P (Err e) → P r
exits P (Ok x) e was h = absurd was
exits P (Err f) e was h = let Q : Fault Cause → Type 0 = λ g. P (Err g) in subst Q (sym was) h

pub gives_only : {A B : Type 0} {R : A → B → Type 0} (P : Cause → Type 0) → RefusesOnly P (Gives R)
gives_only {A} {B} {R} P a r h = go (Err r) h refl
  where
    go : (answer : Result B Cause) → Gives R a answer → answer ≡ Err r → P r
    go answer (gives b k) e = absurd (clash b r e)

pub finds_only : {A : Type 0} {R : A → Cause → Type 0} (P : Cause → Type 0) → ((a : A) (c : Cause) → R a c → P c) → RefusesOnly P (Finds R)
finds_only {A} {R} P each a r h = go (Err r) h refl
  where
    go : (answer : Result A Cause) → Finds R a answer → answer ≡ Err r → P r
    go answer (finds c k) e = subst P (same_cause {B = A} c r e) (each a c k)
    go answer (clear none) e = absurd (clash a r e)
