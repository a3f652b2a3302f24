use Rattle.salt_scheduler.proofs.Calm.{calm-spares, none-told, sought-calm}
use Rattle.salt_scheduler.proofs.SoundFacts.{waits-apart}
use Rattle.salt_scheduler.proofs.scheduler.Scheduler.victim.Goals as goal

pub returns-then-self : goal.returns-then-self
returns-then-self c = λ s r stands sound. (calm-spares s r sound (stands.calm c.if-self.true), stands)

pub returns : goal.returns
returns c = λ s r stands sound.
    let told = c.in_ok-victim.ensures s.watch r stands.watch (waits-apart s sound) in (
      told,
      record {
        books = stands.books;
        watch = stands.watch;
        called = stands.called;
        turns = stands.turns;
        calm = λ is. sought-calm s r sound c.in_ok-victim.victim told (none-told c.in_ok-victim.victim _ c.is_none-self.ensures is);
      },
    )
