-- A walk through an archive that has passed some members and found their objects.
use Rattle.std.proofs.Common.{◌≡◌, ℕ, ◌+◌, ◌<◌, ◌≤◌, List, [], ◌∷◌, ◌++◌, length, length-append, append_assoc, add-zero, Some, None, Ok, Err, ap, subst, sym, refl, ◌∙◌, inl, inr, arith}
use Rattle.std.proofs.lemmas.List.{append-nil}
use Rattle.glk_ar.specs.declared.walk.ArBad.{ArBad}
use Rattle.glk_ar.specs.declared.walk.Member.{Member}
use Rattle.glk_ar.specs.Archive.{Entry, HasMagic, IsMemberAt, IsRefused, IsRun, after, first_offset, body_at}
use Rattle.glk_ar.specs.Walk.{Walk}
use Rattle.glk_ar.specs.Walks.{walk_from_start, entry_of, Steps}
use Rattle.glk_base.specs.declared.fault.Fault.{Fault}
use Rattle.glk_base.specs.declared.fault.Fault.TheVariants as fault
use Rattle.glk_package.specs.declared.refusal.PackageBad.{PackageBad}
use Rattle.glk_package.specs.ObjectRules.{ObjectRules, rules_after}
use Rattle.glk_package.specs.Members.{AreObjectsOf, AreObjects, IsMemberFault, archive_fault}
use Rattle.glk_package.specs.Package.{AreMembers, IsFaultAt, ArchiveFile, OrOutOfMemory}
use Rattle.glk_package.specs.ObjectEntry.{ObjectEntry}
use Rattle.glk_package.proofs.BodiesAt.{is_at_end, body_is_at}
use Rattle.glk_package.proofs.RuleAfter.{after_none, after_both}

-- The walk has passed n members of the file, and these are their objects.
pub record Passed (rules : ObjectRules) (file : List ℕ) (walk : Walk) (n : ℕ) (objects : List ObjectEntry) : Type 0 where
  pub magic : HasMagic file
  pub bytes : walk.bytes ≡ file
  pub done : List Entry
  pub members : AreMembers file first_offset done walk.at
  pub hold : AreObjects rules 0 done objects
  pub number : n ≡ length done
  pub low : n ≤ walk.at

-- one more member after those up to q
pub members_more : (file : List ℕ) (p : ℕ) (es : List Entry) (q : ℕ) (e : Entry) → AreMembers file p es q → IsMemberAt file q e → AreMembers file p (es ++ e ∷ []) (after file q)
members_more file p [] q e same member =
    let P : ℕ → Type 0 = λ at. IsMemberAt file at e × (after file at ≡ after file q) in subst P (sym same) (member, refl)
members_more file p (d ∷ ds) q e members member = (members.0, members_more file (after file p) ds q e members.1 member)

-- and its objects come after theirs
pub objects_more : (rules : ObjectRules) (n : ℕ) (es : List Entry) (objects here : List ObjectEntry) (e : Entry) → AreObjects rules n es objects
    → AreObjectsOf (rules_after rules objects) (n + length es) e here → AreObjects rules n (es ++ e ∷ []) (objects ++ here)
objects_more rules n [] objects here e none gives =
    let rule : rules_after rules objects ≡ rules = ap (λ os. rules_after rules os) none ∙ after_none rules in
    let P : ℕ → Type 0 = λ k. AreObjectsOf (rules_after rules objects) k e here in
    let Q : ObjectRules → Type 0 = λ w. AreObjectsOf w n e here in
    let first : AreObjectsOf rules n e here = subst Q rule (subst P (add-zero n) gives) in
    (here, [], first, refl, ap (λ os. os ++ here) none ∙ sym (append-nil here))
objects_more rules n (d ∷ ds) objects here e hold gives =
    let later : ObjectRules = rules_after rules hold.0 in
    let rule : rules_after rules objects ≡ rules_after later hold.1 = ap (λ os. rules_after rules os) hold.4 ∙ sym (after_both rules hold.0 hold.1) in
    let P : ℕ → Type 0 = λ k. AreObjectsOf (rules_after rules objects) k e here in
    let Q : ObjectRules → Type 0 = λ w. AreObjectsOf w (n + 1 + length ds) e here in
    let numbers : n + length (d ∷ ds) ≡ n + 1 + length ds = omega arith in
    let more : AreObjects later (n + 1) (ds ++ e ∷ []) (hold.1 ++ here) = objects_more later (n + 1) ds hold.1 here e hold.3 (subst Q rule (subst P numbers gives)) in
    (hold.0, hold.1 ++ here, hold.2, more, ap (λ os. os ++ here) hold.4 ∙ append_assoc hold.0 hold.1 here)

-- members up to the end of the file are a run that ends there
pub run_of : (file : List ℕ) (p : ℕ) (es : List Entry) (q : ℕ) → AreMembers file p es q → q ≡ length file → IsRun file p es None
run_of file p [] q same end = same ∙ end
run_of file p (e ∷ es) q members end = (members.0, run_of file (after file p) es q members.1 end)

pub passed_start : (rules : ObjectRules) (file : List ℕ) → HasMagic file → Passed rules file (walk_from_start file) 0 []
passed_start rules file magic = record { magic = magic; bytes = refl; done = []; members = refl; hold = refl; number = refl; low = omega arith }

-- the member of a step
pub step_member : (rules : ObjectRules) (file : List ℕ) (old new : Walk) (n : ℕ) (objects : List ObjectEntry) (m : Member) → Passed rules file old n objects → Steps old (Some (Ok m)) new → IsMemberAt file old.at (entry_of m)
step_member rules file old new n objects m passed step =
    let P : List ℕ → Type 0 = λ bs. IsMemberAt bs old.at (entry_of m) in subst P passed.bytes step.0

-- its number is below the file's length, and its body is inside the file
pub step_room : (rules : ObjectRules) (file : List ℕ) (old new : Walk) (n : ℕ) (objects : List ObjectEntry) (m : Member) → Passed rules file old n objects → Steps old (Some (Ok m)) new
    → (n < length file) × (body_at (entry_of m) + length m.body.now ≤ length file)
step_room rules file old new n objects m passed step =
    let member : IsMemberAt file old.at (entry_of m) = step_member rules file old new n objects m passed step in
    let inside : old.at < length file = member.inside in
    let room = is_at_end file (body_at (entry_of m)) m.body.now (body_is_at file old.at (entry_of m) member) in
    let low : n ≤ old.at = passed.low in
    (omega (arith, inside, low), room)

pub passed_more : (rules : ObjectRules) (file : List ℕ) (old new : Walk) (n : ℕ) (objects here : List ObjectEntry) (m : Member) → Passed rules file old n objects → Steps old (Some (Ok m)) new → AreObjectsOf (rules_after rules objects) n (entry_of m) here → Passed rules file new (n + 1) (objects ++ here)
passed_more rules file old new n objects here m passed step gives =
    let member : IsMemberAt file old.at (entry_of m) = step_member rules file old new n objects m passed step in
    let inside : old.at < length file = member.inside in
    let at : new.at ≡ after file old.at = ap (λ w. w.at) step.1 ∙ ap (λ bs. after bs old.at) passed.bytes in
    let P : ℕ → Type 0 = λ q. AreMembers file first_offset (passed.done ++ entry_of m ∷ []) q in
    let Q : ℕ → Type 0 = λ k. AreObjectsOf (rules_after rules objects) k (entry_of m) here in
    let low : n ≤ old.at = passed.low in
    record {
      magic = passed.magic;
      bytes = ap (λ w. w.bytes) step.1 ∙ passed.bytes;
      done = passed.done ++ entry_of m ∷ [];
      members = subst P (sym at) (members_more file first_offset passed.done old.at (entry_of m) passed.members member);
      hold = objects_more rules 0 passed.done objects here (entry_of m) passed.hold (subst Q (passed.number ∙ omega arith) gives);
      number = omega (arith, passed.number, length-append passed.done (entry_of m ∷ []));
      low = omega (arith, at);
    }

pub passed_end : (rules : ObjectRules) (file : List ℕ) (old new : Walk) (n : ℕ) (objects : List ObjectEntry) → Passed rules file old n objects → Steps old None new → ArchiveFile rules file (Ok objects)
passed_end rules file old new n objects passed step =
    let end : old.at ≡ length file = step.0 ∙ ap length passed.bytes in
    (passed.done, (passed.magic, run_of file first_offset passed.done old.at passed.members end), passed.hold)

-- what the walk stops at is the first fault
pub passed_fault : (rules : ObjectRules) (file : List ℕ) (old : Walk) (n : ℕ) (objects : List ObjectEntry) (bad : PackageBad) → Passed rules file old n objects → IsFaultAt (rules_after rules objects) file old.at n bad → ArchiveFile rules file (Err bad)
passed_fault rules file old n objects bad passed fault =
    let P : ℕ → Type 0 = λ k. IsFaultAt (rules_after rules objects) file old.at k bad in
    inr (
      passed.magic,
      record {
        before = passed.done;
        at = old.at;
        members = passed.members;
        objects = objects;
        hold = passed.hold;
        fault = subst P passed.number fault;
      },
    )

pub passed_refused : (rules : ObjectRules) (file : List ℕ) (old new : Walk) (n : ℕ) (objects : List ObjectEntry) (broken : ArBad) → Passed rules file old n objects → Steps old (Some (Err broken)) new → ArchiveFile rules file (Err (archive_fault n broken))
passed_refused rules file old new n objects broken passed step =
    let P : List ℕ → Type 0 = λ bs. IsRefused bs old.at broken in
    passed_fault rules file old n objects (archive_fault n broken) passed (inl (broken, subst P passed.bytes step.0, refl))

pub passed_held : (rules : ObjectRules) (file : List ℕ) (old new : Walk) (n : ℕ) (objects : List ObjectEntry) (m : Member) (bad : PackageBad) → Passed rules file old n objects → Steps old (Some (Ok m)) new → IsMemberFault (rules_after rules objects) n (entry_of m) bad → ArchiveFile rules file (Err bad)
passed_held rules file old new n objects m bad passed step fault =
    passed_fault rules file old n objects bad passed (inr (entry_of m, step_member rules file old new n objects m passed step, fault))

-- a refusal for one fault is one for what it means
pub held_more : (P Q : PackageBad → Type 0) (refusal : Fault PackageBad) → ((bad : PackageBad) → P bad → Q bad) → OrOutOfMemory P refusal → OrOutOfMemory Q refusal
held_more P Q (fault.Bad bad) means is = means bad is
held_more P Q fault.OutOfMemory means is = tt
