-- What sources and sinks in memory hold, and what each call gives and leaves.
use Rattle.std.specs.Prelude.{ℕ, ◌+◌, min, nat_le, if◌then◌else◌, Bool, ◌&&◌, List, ◌++◌, length, take, drop}
use Rattle.salt_io.specs.Calls.{CallLog, succeeds, after_call}

-- A source in memory.
pub record SourceState : Type 0 where
  pub left : List ℕ
  -- how many bytes a read gives at most
  pub most : ℕ
  pub calls : CallLog

-- what a read into so many bytes gives, if it does not fail
abbrev pub bytes_given : SourceState → ℕ → List ℕ
bytes_given source room = take (min room source.most) source.left

abbrev pub after_read : SourceState → ℕ → SourceState
after_read source room = record {
  left = if succeeds source.calls then drop (min room source.most) source.left else source.left;
  most = source.most;
  calls = after_call source.calls (succeeds source.calls);
}

-- A sink in memory.
pub record SinkState : Type 0 where
  pub held : List ℕ
  -- how many bytes it can hold
  pub room : ℕ
  pub calls : CallLog

-- a write of these bytes does not fail: no list says so, and they fit
abbrev pub takes_write : SinkState → List ℕ → Bool
takes_write sink bytes = succeeds sink.calls && nat_le (length sink.held + length bytes) sink.room

abbrev pub after_write : SinkState → List ℕ → SinkState
after_write sink bytes = record {
  held = if takes_write sink bytes then sink.held ++ bytes else sink.held;
  room = sink.room;
  calls = after_call sink.calls (takes_write sink bytes);
}
