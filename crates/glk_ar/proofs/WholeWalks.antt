-- A whole walk gives the archive.
use Rattle.std.proofs.Common.{◌≡◌, ℕ, List, [], ◌∷◌, ◌++◌, append_assoc, Option, Some, None, Ok, Err, subst, sym, refl, inr}
use Rattle.std.proofs.lemmas.List.{append-nil}
use Rattle.glk_ar.specs.declared.walk.ArBad.{ArBad}
use Rattle.glk_ar.specs.declared.walk.Member.{Member}
use Rattle.glk_ar.specs.Archive.{Entry, IsMemberAt, IsRefused, IsRun, Ends, after, first_offset, HasMagic, Archive}
use Rattle.glk_ar.specs.Walk.{Walk}
use Rattle.glk_ar.specs.Walks.{walk_from_start, entry_of, Steps, IsPrefix, Walked}

pub prefix_none : (b : List ℕ) → IsPrefix b [] first_offset
prefix_none b = record { goes_on = λ rest last run. run }

pub prefix_more : (b : List ℕ) (done : List Entry) (p : ℕ) (e : Entry) → IsPrefix b done p → IsMemberAt b p e → IsPrefix b (done ++ e ∷ []) (after b p)
prefix_more b done p e prefix member = record { goes_on = λ rest last run. rw append_assoc (prefix.goes_on (e ∷ rest) last (member, run)) }

pub prefix_end : (b : List ℕ) (done : List Entry) (p : ℕ) (last : Option ArBad) → IsPrefix b done p → Ends b p last → IsRun b first_offset done last
prefix_end b done p last prefix ends =
    let P : List Entry → Type 0 = λ es. IsRun b first_offset es last in subst P (append-nil done) (prefix.goes_on [] last ends)

pub walk_start : (b : List ℕ) → HasMagic b → Walked b [] (walk_from_start b)
walk_start b magic = record { magic = magic; bytes = refl; prefix = prefix_none b }

pub walk_more : (b : List ℕ) (done : List Entry) (old new : Walk) (m : Member) → Walked b done old → Steps old (Some (Ok m)) new → Walked b (done ++ entry_of m ∷ []) new
walk_more b done old new m walked step =
    let P : List ℕ → Type 0 = λ bs. IsMemberAt bs old.at (entry_of m) in
    let member : IsMemberAt b old.at (entry_of m) = subst P walked.bytes step.0 in
    let prefix : IsPrefix b (done ++ entry_of m ∷ []) (after b old.at) = prefix_more b done old.at (entry_of m) walked.prefix member in
    let Q : List ℕ → Type 0 = λ bs. IsPrefix b (done ++ entry_of m ∷ []) (after bs old.at) in
    let R : Walk → Type 0 = λ w. (w.bytes ≡ b) × IsPrefix b (done ++ entry_of m ∷ []) w.at in
    let at_new : (new.bytes ≡ b) × IsPrefix b (done ++ entry_of m ∷ []) new.at = subst R (sym step.1) (walked.bytes, subst Q (sym walked.bytes) prefix) in
    record { magic = walked.magic; bytes = at_new.0; prefix = at_new.1 }

pub walk_end : (b : List ℕ) (done : List Entry) (old new : Walk) → Walked b done old → Steps old None new → Archive b (Ok done)
walk_end b done old new walked step =
    let P : List ℕ → Type 0 = λ bs. Ends bs old.at None in
    let ends : Ends b old.at None = subst P walked.bytes step.0 in
    (walked.magic, prefix_end b done old.at None walked.prefix ends)

pub walk_refused : (b : List ℕ) (done : List Entry) (old new : Walk) (bad : ArBad) → Walked b done old → Steps old (Some (Err bad)) new → Archive b (Err bad)
walk_refused b done old new bad walked step =
    let P : List ℕ → Type 0 = λ bs. IsRefused bs old.at bad in
    let refused : IsRefused b old.at bad = subst P walked.bytes step.0 in
    inr (walked.magic, done, prefix_end b done old.at (Some bad) walked.prefix refused)
