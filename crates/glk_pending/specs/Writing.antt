-- A text on its way to a sink: its last bytes may be pending.
use Rattle.std.specs.Prelude.{◌≡◌, ℕ, List, ◌++◌, Result, Ok, Err}
use Rattle.glk_io.specs.Changes.{SinkState, SinkAppends, SinkFails}

-- the text was written, but for its end, which is pending
pub record IsPartlyWritten (old new : SinkState) (text pending : List ℕ) : Type 0 where
  pub written : List ℕ
  pub parts : text ≡ written ++ pending
  pub appends : SinkAppends old new written

-- What a call answers that writes a text after the pending bytes: the end of both may be pending; a prefix of both is
-- written where a write failed.
abbrev pub WritesAfter : {T E : Type 0} → SinkState → SinkState → List ℕ → List ℕ → List ℕ → Result T E → Type 0
WritesAfter old new before after text (Ok done) = IsPartlyWritten old new (before ++ text) after
WritesAfter old new before after text (Err failed) = SinkFails old new (before ++ text)
