use Rattle.salt_transcript.proofs.reader.Reader.new.Goals as goal
use Rattle.std.proofs.Common.{[], refl}

pub returns-clause-read : goal.returns-clause-read
returns-clause-read c = record {
  told = record { holds = c.nothing_judged.ensures.holds; found = refl; naming = c.sound_stories_name_tables.ensures [] refl };
  items = c.new.ensures;
  events = refl;
  lines = refl;
  printable = tt;
  showable = tt;
}
