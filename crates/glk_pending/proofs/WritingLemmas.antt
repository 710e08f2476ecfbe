-- Texts on their way to a sink, one after the other.
use Rattle.std.proofs.Common.{◌≡◌, ◌++◌, ℕ, List, [], Option, Some, None, Result, Ok, Err, refl, sym, ap, subst, ◌∙◌, append_assoc}
use Rattle.std.specs.Result.{IsErrAnd}
use Rattle.std.proofs.lemmas.List.{append-nil}
use Rattle.glk_io.specs.Changes.{SinkState, SinkAppends, SinkFails, WritesText}
use Rattle.std.specs.Prelude.{◌<◌, ◌+◌, length, OnOk, OnErr}
use Rattle.std.specs.Borrow.{Bor}
use Rattle.std.proofs.Common.{get_or, take, drop}
use Rattle.glk_io.specs.Streams.{joined}
use Rattle.glk_io.proofs.SinkLemmas.{then_appends, then_fails, fails_first, appends_none, fails_anyway, joined_more, joined_split}
use Rattle.glk_pending.specs.Writing.{IsPartlyWritten, WritesAfter}

-- all of the text is pending
pub all_pending : (a : SinkState) (text : List ℕ) → IsPartlyWritten a a text text
all_pending a text = record { written = []; parts = refl; appends = appends_none a }

-- none of it is
pub none_pending : (a b : SinkState) (text : List ℕ) → SinkAppends a b text → IsPartlyWritten a b text []
none_pending a b text h = record { written = text; parts = sym (append-nil text); appends = h }

pub none_left : (a b : SinkState) (text : List ℕ) → IsPartlyWritten a b text [] → SinkAppends a b text
none_left a b text h = subst (λ (t : List ℕ). SinkAppends a b t) (sym (h.parts ∙ append-nil h.written)) h.appends

-- a text whose pending bytes are written too
pub then_flushed : (a b c : SinkState) (text pending : List ℕ) → IsPartlyWritten a b text pending → SinkAppends b c pending → SinkAppends a c text
then_flushed a b c text pending h k =
    subst (λ (t : List ℕ). SinkAppends a c t) (sym h.parts) (then_appends a b c h.written pending h.appends k)

pub flush_fails : (a b c : SinkState) (text pending : List ℕ) → IsPartlyWritten a b text pending → SinkFails b c pending → SinkFails a c text
flush_fails a b c text pending h k =
    subst (λ (t : List ℕ). SinkFails a c t) (sym h.parts) (then_fails a b c h.written pending h.appends k)

-- the text with more after it, in the parts that were written and are pending
regrouped : (before xs ys written pending : List ℕ) → before ++ xs ≡ written ++ pending → before ++ (xs ++ ys) ≡ written ++ (pending ++ ys)
regrouped before xs ys written pending e =
    sym (append_assoc before xs ys) ∙ ap (λ t. t ++ ys) e ∙ append_assoc written pending ys

-- one text after the other, of which the end of each may be pending
module _ (a b c : SinkState) (before between after xs ys : List ℕ) (h : IsPartlyWritten a b (before ++ xs) between) where
  pub more_written : IsPartlyWritten b c (between ++ ys) after → IsPartlyWritten a c (before ++ (xs ++ ys)) after
  more_written k = record {
    written = h.written ++ k.written;
    parts = regrouped before xs ys h.written between h.parts ∙ ap (λ t. h.written ++ t) k.parts ∙ sym (append_assoc h.written k.written after);
    appends = then_appends a b c h.written k.written h.appends k.appends;
  }

  pub more_fails : SinkFails b c (between ++ ys) → SinkFails a c (before ++ (xs ++ ys))
  more_fails f =
      subst (λ (t : List ℕ). SinkFails a c t) (sym (regrouped before xs ys h.written between h.parts))
      (then_fails a b c h.written (between ++ ys) h.appends f)

  pub more_writes : {T E : Type 0} (r : Result T E) → WritesAfter b c between after ys r → WritesAfter a c before after (xs ++ ys) r
  more_writes (Ok done) k = more_written k
  more_writes (Err failed) k = more_fails k

-- a prefix of a text is one of the text with more after it
pub fails_early : (a b : SinkState) (before xs ys : List ℕ) → SinkFails a b (before ++ xs) → SinkFails a b (before ++ (xs ++ ys))
fails_early a b before xs ys f =
    subst (λ (t : List ℕ). SinkFails a b t) (append_assoc before xs ys) (fails_first a b (before ++ xs) ys f)

-- a `?` hands the fault on
pub fails_after : {T E : Type 0} (a b : SinkState) (before after text : List ℕ) (r : Result T E) (e : E) → IsErrAnd r (λ f. f ≡ e) → SinkFails a b (before ++ text) → WritesAfter a b before after text r
fails_after a b before after text (Ok x) e was h = absurd was
fails_after a b before after text (Err f) e was h = h

-- three texts, one after the other
module _ (a : SinkState) (before xs ys zs : List ℕ) where
  pub first_fails : (b : SinkState) → SinkFails a b (before ++ xs) → SinkFails a b (before ++ ((xs ++ ys) ++ zs))
  first_fails b f = fails_early a b before (xs ++ ys) zs (fails_early a b before xs ys f)

  pub second_fails : (b c : SinkState) (between : List ℕ) → IsPartlyWritten a b (before ++ xs) between → SinkFails b c (between ++ ys)
      → SinkFails a c (before ++ ((xs ++ ys) ++ zs))
  second_fails b c between h f = fails_early a c before (xs ++ ys) zs (more_fails a b c before between between xs ys h f)

  pub third_writes : {T E : Type 0} (b c d : SinkState) (one two after : List ℕ) (r : Result T E)
      → IsPartlyWritten a b (before ++ xs) one → IsPartlyWritten b c (one ++ ys) two → WritesAfter c d two after zs r
      → WritesAfter a d before after ((xs ++ ys) ++ zs) r
  third_writes b c d one two after r h k w =
      more_writes a c d before two after (xs ++ ys) zs (more_written a b c before one two xs ys h k) r w

-- a list of texts, one after the other
module _ (a b c : SinkState) (before between after : List ℕ) (ps : List (Bor (List ℕ))) (n : ℕ) (d : Bor (List ℕ)) (inside : n < length ps)
    (h : IsPartlyWritten a b (before ++ joined (take n ps)) between) where
  pub each_more : IsPartlyWritten b c (between ++ (get_or ps n d).now) after → IsPartlyWritten a c (before ++ joined (take (n + 1) ps)) after
  each_more k =
      subst (λ (t : List ℕ). IsPartlyWritten a c (before ++ t) after) (sym (joined_more ps n d inside))
      (more_written a b c before between after (joined (take n ps)) (get_or ps n d).now h k)

  pub each_fails : SinkFails b c (between ++ (get_or ps n d).now) → SinkFails a c (before ++ joined ps)
  each_fails f =
      let part : SinkFails a c (before ++ joined (take (n + 1) ps)) =
      subst (λ (t : List ℕ). SinkFails a c (before ++ t)) (sym (joined_more ps n d inside))
      (more_fails a b c before between after (joined (take n ps)) (get_or ps n d).now h f) in
      subst (λ (t : List ℕ). SinkFails a c (before ++ t)) (sym (joined_split ps (n + 1)))
      (fails_early a c before (joined (take (n + 1) ps)) (joined (drop (n + 1) ps)) part)

-- what was pending is written, and then a long text
pub long_writes : {T E : Type 0} (a b c : SinkState) (before text : List ℕ) (r : Result T E) → SinkAppends a b before
    → OnOk r (SinkAppends b c text) → OnErr r (SinkFails b c text) → WritesAfter a c before [] text r
long_writes a b c before text (Ok done) h whole prefix = none_pending a c (before ++ text) (then_appends a b c before text h whole)
long_writes a b c before text (Err failed) h whole prefix = then_fails a b c before text h prefix

-- a text is written, and then what is pending of it
pub flushed : {T E : Type 0} (a b c : SinkState) (before pending text : List ℕ) (r : Result T E) → before ≡ [] → IsPartlyWritten a b (before ++ text) pending
    → OnOk r (SinkAppends b c pending) → OnErr r (SinkFails b c pending) → WritesText a c text r
flushed a b c before pending text (Ok done) none h whole prefix =
    then_flushed a b c text pending (subst (λ (t : List ℕ). IsPartlyWritten a b (t ++ text) pending) none h) whole
flushed a b c before pending text (Err failed) none h whole prefix =
    flush_fails a b c text pending (subst (λ (t : List ℕ). IsPartlyWritten a b (t ++ text) pending) none h) prefix

pub unflushed : {T E : Type 0} (a b : SinkState) (before text : List ℕ) (r : Result T E) (e : E) → IsErrAnd r (λ f. f ≡ e) → before ≡ []
    → SinkFails a b (before ++ text) → WritesText a b text r
unflushed a b before text r e was none h = fails_anyway a b text r e was (subst (λ (t : List ℕ). SinkFails a b (t ++ text)) none h)

-- A text that is written piece by piece: behind the pending bytes stands what is left of it.

pub left_none : (a b : SinkState) (text pending end : List ℕ) → end ≡ [] → IsPartlyWritten a b text (pending ++ end) → IsPartlyWritten a b text pending
left_none a b text pending end none h =
    subst (λ (t : List ℕ). IsPartlyWritten a b text t) (ap (λ t. pending ++ t) none ∙ append-nil pending) h

-- what is left begins with a text that is written next
module _ (a b c : SinkState) (text pending end xs rest : List ℕ) (is : end ≡ xs ++ rest) (h : IsPartlyWritten a b text (pending ++ end)) where
  split : text ≡ h.written ++ ((pending ++ xs) ++ rest)
  split = h.parts ∙ ap (λ t. h.written ++ t) (ap (λ t. pending ++ t) is ∙ sym (append_assoc pending xs rest))

  pub left_more : (after : List ℕ) → IsPartlyWritten b c (pending ++ xs) after → IsPartlyWritten a c text (after ++ rest)
  left_more after k = record {
    written = h.written ++ k.written;
    parts = split ∙ ap (λ t. h.written ++ t) (ap (λ t. t ++ rest) k.parts ∙ append_assoc k.written after rest) ∙ sym (append_assoc h.written k.written (after ++ rest));
    appends = then_appends a b c h.written k.written h.appends k.appends;
  }

  pub left_fails : SinkFails b c (pending ++ xs) → SinkFails a c text
  left_fails f =
      subst (λ (t : List ℕ). SinkFails a c t) (sym split)
      (then_fails a b c h.written ((pending ++ xs) ++ rest) h.appends (fails_first b c (pending ++ xs) rest f))
