use Rattle.rows_pages.proofs.frames.ends.Goals as goal

pub get-requires-2 : goal.get-requires-2
get-requires-2 c = let s = c.requires in record { dev = s.dev; named = s.named; t = s.t; is = c.in-Ok.ensures.stands s.dev s.named s.t s.is }
