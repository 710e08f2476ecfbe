-- Steps in a chain. A step on a value gives another or refuses; a chain refuses by the first step that does.
use Rattle.std.specs.Prelude.{◌≡◌, List, [], ◌∷◌, Result, Ok, Err, ⊤}
use Rattle.glk_cause.specs.declared.cause.Cause.{Cause}
use Rattle.glk_base.specs.declared.fault.Fault.{Fault}
use Rattle.glk_base.specs.declared.fault.Fault.TheVariants as fault

-- a first step, then a second on what the first gives
pub data Then {A B C : Type 0} (S : A → Result B Cause → Type 0) (T : B → Result C Cause → Type 0) (a : A) : Result C Cause → Type 0 where
  stops : (refusal : Cause) → S a (Err refusal) → Then S T a (Err refusal)
  goes_on : (b : B) (answer : Result C Cause) → S a (Ok b) → T b answer → Then S T a answer

-- a step that hands on what it gets where this holds of it, and else refuses
pub data Demands {A : Type 0} (P : A → Type 0) (refusal : A → Cause) (a : A) : Result A Cause → Type 0 where
  fails : (P a → ⊥) → Demands P refusal a (Err (refusal a))
  holds : P a → Demands P refusal a (Ok a)

-- a step that gives what is so related to what it gets, and never refuses
pub data Gives {A B : Type 0} (R : A → B → Type 0) (a : A) : Result B Cause → Type 0 where
  gives : (b : B) → R a b → Gives R a (Ok b)

-- a step that refuses for a cause that is so related to what it gets, and hands that on where there is none
pub data Finds {A : Type 0} (R : A → Cause → Type 0) (a : A) : Result A Cause → Type 0 where
  finds : (refusal : Cause) → R a refusal → Finds R a (Err refusal)
  clear : ((refusal : Cause) → R a refusal → ⊥) → Finds R a (Ok a)

-- a step on each of a list, with a state that is handed on
pub data Along {St A B : Type 0} (S : St → A → Result (St × B) Cause → Type 0) : St → List A → Result (List B) Cause → Type 0 where
  ends : (s : St) → Along S s [] (Ok [])
  refuses : (s : St) (a : A) (later : List A) (refusal : Cause) → S s a (Err refusal) → Along S s (a ∷ later) (Err refusal)
  refuses_later : (s t : St) (a : A) (b : B) (later : List A) (refusal : Cause) → S s a (Ok (t, b)) → Along S t later (Err refusal) → Along S s (a ∷ later) (Err refusal)
  takes : (s t : St) (a : A) (b : B) (later : List A) (rest : List B) → S s a (Ok (t, b)) → Along S t later (Ok rest) → Along S s (a ∷ later) (Ok (b ∷ rest))

-- a step gives at most one answer: on this value, and on each
abbrev pub IsOneAt : {A B : Type 0} → (A → Result B Cause → Type 0) → A → Type 0
IsOneAt {A} {B} S a = (x y : Result B Cause) → S a x → S a y → x ≡ y

abbrev pub IsOne : {A B : Type 0} → (A → Result B Cause → Type 0) → Type 0
IsOne {A} {B} S = (a : A) → IsOneAt S a

-- a step gives at least one answer: on this value
abbrev pub IsSomeAt : {A B : Type 0} → (A → Result B Cause → Type 0) → A → Type 0
IsSomeAt {A} {B} S a = (answer : Result B Cause) × S a answer

-- what a call answers that takes a step, or is out of memory
abbrev pub Answers : {B C : Type 0} → (Result B Cause → Type 0) → (C → B) → Result C (Fault Cause) → Type 0
Answers S view (Ok c) = S (Ok (view c))
Answers S view (Err (fault.Bad refusal)) = S (Err refusal)
Answers S view (Err fault.OutOfMemory) = ⊤

-- the same of a step that hands on what it gets: a check
abbrev pub Checks : {A C : Type 0} → (A → Result A Cause → Type 0) → A → Result C (Fault Cause) → Type 0
Checks S a result = Answers (S a) (λ _. a) result
