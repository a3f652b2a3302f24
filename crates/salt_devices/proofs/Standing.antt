-- A database behind a call on its devices.
use Rattle.salt_bytes.specs.Generations.{WhichLog}
use Rattle.salt_commit.proofs.Standing.{partitions_kept}
use Rattle.salt_commit.specs.Stores.{IsStore, decided_by, last_boot, reading}
use Rattle.salt_commit.specs.declared.store.Store.{Store}
use Rattle.salt_decisions.specs.Decisions.{IsDecisions, device_in}
use Rattle.salt_decisions.specs.declared.decisions.Decisions.{Decisions}
use Rattle.salt_commit.specs.Messages.{IsAtRest, IsNewIn, messages_of}
use Rattle.salt_devices.proofs.Netted.{IsWithNet, held_as, held_with, net_with, standing_as, standing_with}
use Rattle.salt_devices.proofs.Remembered.{held_in, held_numbers}
use Rattle.salt_devices.proofs.Started.{able_on, called, comes_again, leaves_again, opened, opens_again, settled_again, upon_again}
use Rattle.salt_devices.proofs.Stores.{held_again, held_leaves, standing_again}
use Rattle.salt_devices.specs.Holding.{CanStart, HoldsIn, IsAble, IsCallable, IsGoing, IsHeld, IsNewTo, IsStanding, NetFits}
use Rattle.salt_devices.specs.Leaving.{CanOpen, LeavesEither, LeavesAs, StandsFor}
use Rattle.salt_devices.specs.Refusing.{FindsKept, RefusedAs, RefusesDevices}
use Rattle.salt_devices.specs.Remembering.{AreNumbersOf, MayFollow, Remembers, numbers_known, numbers_of}
use Rattle.salt_devices.specs.Standing.{RestsAs, StandsHeld, StandsLeft, StandsStarted}
use Rattle.salt_devices.specs.declared.pending.Pending.TheVariants.{Boot, Decision, Nothing, Opening}
use Rattle.salt_devices.specs.declared.pending.Pending.{Pending}
use Rattle.salt_disk.specs.Disks.{AreUnchanged, IsRestarted, IsSettled, SameShape, View}
use Rattle.salt_gatelog.proofs.Frame.{log_kept}
use Rattle.salt_model.specs.Kept.{Definition, Kept}
use Rattle.salt_stands.specs.Coordinator.{Coordinator, coordinator_pair, device_of}
use Rattle.salt_stands.specs.CoordinatorLog.{CoordinatorLog}
use Rattle.salt_stands.specs.Partition.{pages_device, part_device, part_pair}
use Rattle.salt_stands.specs.Pieces.{PartView, other_log}
use Rattle.salt_stands.specs.Stands.{logs_of}
use Rattle.salt_storage.specs.Storing.{Reopens}
use Rattle.salt_storage.specs.Writing.{FindsNoMore}
use Rattle.salt_storage.specs.declared.found.Numbers.{Numbers}
use Rattle.salt_values.specs.declared.id.Id.{Id}
use Rattle.salt_place.specs.declared.placement.Shape.{Shape}
use Rattle.std.proofs.Common.{Bool, IsTrue, None, Option, Some, ap, arith, false, inl, inr, refl, subst, sym, true, ℕ, ◌+◌, ◌≡◌, ◌⊎◌, ◌∙◌}
use Rattle.std.specs.Prelude.{IfSome}

-- behind what was being written over a store
pub not_opening : (q : Pending) (a b : Kept) → MayFollow q a b → q ≡ Opening → ⊥
not_opening Nothing a b h is = absurd (cc is)
not_opening Opening a b h is = h
not_opening Boot a b h is = absurd (cc is)
not_opening Decision a b h is = absurd (cc is)

-- A STORE ON DEVICES that are as they were

module _ (d e : View) (same : AreUnchanged d e) where
  same_bytes : e.bytes ≡ d.bytes
  same_bytes = λ i dev. (same.each dev).bytes i

  still_settled : (dev : ℕ) → IsSettled d dev → IsSettled e dev
  still_settled dev settled image left = settled image ((same.each dev).images image left) ∙ sym (same.each dev).bytes

  decisions_unchanged : (x : Decisions) (which : WhichLog) (log : CoordinatorLog) → IsDecisions d x which log → IsDecisions e x which log
  decisions_unchanged x which log is =
      let c = is.counting in
      record {
        own = is.own;
        holds = is.holds;
        counting = record {
          entries = c.entries;
          is_log = log_kept d e x.gate c.entries same.shape (same.each (device_in x)) c.is_log;
          device = c.device;
          known = omega (arith, c.known, same.shape.count);
          other = still_settled (device_of 0 (other_log which)) c.other;
          counts = λ told. ap (λ bytes. coordinator_pair (logs_of bytes)) same_bytes ∙ c.counts (sym same.shape.told ∙ told);
        };
      }

  store_unchanged : (x : Store) (which : WhichLog) (c : Coordinator Definition) (v : ℕ → PartView) → IsStore reading d x which c v → IsStore reading e x which c v
  store_unchanged x which c v is = record {
    decisions = decisions_unchanged x.decisions which c.log is.decisions;
    size = is.size;
    parts = partitions_kept d e x.parts v (decided_by c) same.shape (λ p. same.each (part_device p)) (λ p. same.each (part_device p + 1)) (λ p. same.each (pages_device p)) is.parts;
    sound = λ told. is.sound (sym same.shape.told ∙ told);
  }

  held_unchanged : (shape : Shape) (x : Store) (k : Kept) → IsHeld d shape x k → IsHeld e shape x k
  held_unchanged shape x k h = held_again d e shape x x k (same.shape.told ∙ h.told) h (store_unchanged x h.which h.c h.v h.is)

  going_unchanged : (shape : Shape) (started : Bool) (p : Pending) (x : Store) → IsGoing shape started p d x → IsGoing shape started p e x
  going_unchanged shape started p x h = let s = h.stands in record { called = h.called; nothing = h.nothing; stands = standing_again d shape x s e x (store_unchanged x s.which s.c s.v s.is); net = h.net }

  pub stays_new : (u : Id) → IsNewTo d u → IsNewTo e u
  stays_new u new told c v is =
      new (sym same.shape.told ∙ told) c v
      (record {
        which = is.which;
        counts = ap (λ bytes. coordinator_pair (logs_of bytes)) (sym same_bytes) ∙ is.counts;
        parts = λ p low. ap (λ bytes. part_pair p (logs_of bytes)) (sym same_bytes) ∙ is.parts p low;
      })

module _ (shape : Shape) (started : Bool) (o : Option Store) (p : Pending) (d : View) where
  -- a law: what is held is left
  pub held_left : (n : Numbers) (k : Kept) → StandsHeld shape started o p d k → StandsLeft shape started o n p d k k
  held_left n k h = by o h.held
    where
      by : (o' : Option Store) → HoldsIn d shape o' k → StandsLeft shape started o' n p d k k
      by None none = absurd none
      by (Some x) held = record {
        told = held.told;
        can = record { able = h.able; settled = λ is. absurd (cc (is, h.called)); opens = λ is. absurd (cc (is, h.nothing)) };
        leaves = subst (λ (b : Bool). LeavesAs b d shape k k) (sym h.called) (held_leaves d shape x k held k);
        remembers = record { numbers = held_numbers d shape x k held; follows = subst (λ q. MayFollow q k k) (sym h.nothing) refl };
      }

  pub held_told : (k : Kept) → StandsHeld shape started o p d k → IsTrue d.told
  held_told k h = by o h.held
    where
      by : (o' : Option Store) → HoldsIn d shape o' k → IsTrue d.told
      by None none = absurd none
      by (Some x) held = held.told

  -- where no store stands, nothing is held
  pub none_held : (k : Kept) → ((x : Store) → o ≡ Some x → ⊥) → StandsHeld shape started o p d k → ⊥
  none_held k none h = by o refl h.held
    where
      by : (o' : Option Store) → o ≡ o' → HoldsIn d shape o' k → ⊥
      by None is held = held
      by (Some x) is held = none x is

  module _ (x : Store) (is : o ≡ Some x) where
    pub the_going : IsCallable shape started o p d → IsGoing shape started p d x
    the_going h = subst (λ v. IfSome v (IsGoing shape started p d)) is h.store

    pub the_store : (k : Kept) → StandsHeld shape started o p d k → IsHeld d shape x k
    the_store k h = held_in d shape o x k is h.held

    -- behind a call that went well it can be called
    pub callable_on : (e : View) (y : Store) → SameShape d e → IsCallable shape started o p d → IsStanding e shape y → NetFits y (last_boot y) → IsCallable shape started (Some y) p e
    callable_on e y same h stands net = record {
      can = called shape started p d e (the_going h).called same h.can.able (λ is. absurd (cc (is, (the_going h).nothing)));
      store = record { called = (the_going h).called; nothing = (the_going h).nothing; stands = stands; net = net };
    }

    -- and holds something
    pub goes_on : (k : Kept) (h : StandsHeld shape started o p d k) (e : View) (y : Store) (k' : Kept) → SameShape d e → IsHeld e shape y k' → StandsHeld shape started (Some y) p e k'
    goes_on k h e y k' same held = record { able = able_on shape d e same h.able; called = h.called; nothing = h.nothing; held = held }

    -- behind one that did not, it can be started again
    pub callable_none : (e : View) (q : Pending) → SameShape d e → IsCallable shape started o p d → (q ≡ Opening → ⊥) → IsCallable shape started None q e
    callable_none e q same h not = record { can = called shape started q d e (the_going h).called same h.can.able (opened q started e shape not); store = tt }

    -- with what was being written
    pub breaks_off : (k : Kept) (h : StandsHeld shape started o p d k) (e : View) (n : Numbers) (q : Pending) (k' : Kept) → SameShape d e → LeavesEither e shape k k' → n ≡ numbers_of x → MayFollow q k k' → StandsLeft shape started None n q e k k'
    breaks_off k h e n q k' same leaves counted follows =
        let held = the_store k h in
        record {
          told = same.told ∙ held.told;
          can = called shape started q d e h.called same h.able (opened q started e shape (not_opening q k k' follows));
          leaves = subst (λ (b : Bool). LeavesAs b e shape k k') (sym h.called) leaves;
          remembers = record { numbers = subst (λ m. AreNumbersOf m k) (sym counted) (held_numbers d shape x k held); follows = follows };
        }

    -- where pairs were armed
    module _ (y : Store) (rest : y ≡ record x { messages = messages_of y }) where
      pub pairs_armed : (k : Kept) → StandsHeld shape started o p d k → StandsHeld shape started (Some y) p d k
      pairs_armed k h = record { able = h.able; called = h.called; nothing = h.nothing; held = held_as d shape x y k rest (the_store k h) }

      pub armed_callable : (IsAtRest x → IsAtRest y) → ((u : Id) → IsNewIn x u → IsNewIn y u) → IsCallable shape started o p d → IsCallable shape started (Some y) p d
      armed_callable rests new h =
          let g = the_going h in
          record {
            can = h.can;
            store = record {
              called = g.called;
              nothing = g.nothing;
              stands = standing_as d shape x y rest g.stands;
              net = subst (λ n. NetFits y n) (sym (ap last_boot rest)) (record { rests = rests g.net.rests; later = λ u low. new u (g.net.later u low) });
            };
          }

  -- where nothing was done on the devices
  module _ (e : View) (same : AreUnchanged d e) where
    pub armed : (k : Kept) → StandsHeld shape started o p d k → StandsHeld shape started o p e k
    armed k h = record { able = able_on shape d e same.shape h.able; called = h.called; nothing = h.nothing; held = by o h.held }
      where
        by : (o' : Option Store) → HoldsIn d shape o' k → HoldsIn e shape o' k
        by None none = none
        by (Some x) held = held_unchanged d e same shape x k held

    pub callable_still : IsCallable shape started o p d → IsCallable shape started o p e
    callable_still h = record {
      can = record {
        able = able_on shape d e same.shape h.can.able;
        settled = λ is. record { each = λ dev low. still_settled d e same dev ((h.can.settled is).each dev (omega (arith, low, same.shape.count))) };
        opens = opens_still started h.can.opens;
      };
      store = by o h.store;
    }
      where
        opens_still : (b : Bool) → CanOpen p b d shape → CanOpen p b e shape
        opens_still true opens is told image comes = opens is (sym same.shape.told ∙ told) image (λ dev low. comes dev (omega (arith, low, same.shape.count)) ∙ (same.each dev).bytes)
        opens_still false opens is told image left = opens is (sym same.shape.told ∙ told) image (λ dev low. (same.each dev).images (image dev) (left dev (omega (arith, low, same.shape.count))))

        by : (o' : Option Store) → IfSome o' (IsGoing shape started p d) → IfSome o' (IsGoing shape started p e)
        by None none = tt
        by (Some x) going = going_unchanged d e same shape started p x going

  -- STARTED AGAIN, without the store
  module _ (e : View) (again : IsRestarted d e) (can : CanStart shape started p d) where
    pub starts : StandsStarted shape true None p e
    starts = record { able = able_on shape d e again.shape can.able; settled = settled_again d e again; started_now = refl; opens = opens_again d e again started can.settled p shape can.opens; closed = refl }

    pub found_again : FindsNoMore (RefusesDevices d started shape) (FindsKept d started shape) (RefusesDevices e true shape) (FindsKept e true shape)
    found_again = record {
      refuses_no_more = λ r h. upon_again d e again started can.settled (λ image. RefusedAs shape image r) h;
      finds_no_more = λ k h. upon_again d e again started can.settled (λ image. StandsFor shape image k) h;
    }

    pub rested_again : (k : Kept) → RestsAs shape started d k → RestsAs shape true e k
    rested_again k h = record {
      settled = λ is. settled_again d e again;
      rests = λ told image comes. let was : IsTrue d.told = sym again.shape.told ∙ told in h.rests was image (comes_again d e again started h.settled was image comes);
    }

    pub left_again : (n m : Numbers) (a b : Kept) → m ≡ numbers_known o n → StandsLeft shape started o n p d a b → StandsLeft shape true None m p e a b
    left_again n m a b known h = record {
      told = again.shape.told ∙ h.told;
      can = record { able = able_on shape d e again.shape can.able; settled = λ is. settled_again d e again; opens = opens_again d e again started can.settled p shape can.opens };
      leaves = leaves_again d e again started can.settled shape a b h.leaves;
      remembers = subst (λ z. Remembers z p a b) (sym known) h.remembers;
    }

-- what was started can be called
pub started_callable : (shape : Shape) (started : Bool) (o : Option Store) (p : Pending) (d : View) → StandsStarted shape started o p d → IsCallable shape started o p d
started_callable shape started o p d h = record {
  can = record { able = h.able; settled = λ is. h.settled; opens = h.opens };
  store = subst (λ v. IfSome v (IsGoing shape started p d)) (sym h.closed) tt;
}

-- OPENED ANEW, where the devices were started
module _ (shape : Shape) (started : Bool) (o : Option Store) (n : Numbers) (p : Pending) (d : View) (s : StandsStarted shape started o p d) where
  module _ (a b : Kept) (h : StandsLeft shape started o n p d a b) where
    pub the_left : LeavesAs true d shape a b
    the_left = subst (λ (t : Bool). LeavesAs t d shape a b) s.started_now h.leaves

    pub the_memory : Remembers n p a b
    the_memory = subst (λ v. Remembers (numbers_known v n) p a b) s.closed h.remembers

    -- what an error leaves
    pub left_behind : (e : View) → SameShape d e → LeavesEither e shape a b → StandsLeft shape false o n p e a b
    left_behind e same leaves = record {
      told = same.told ∙ h.told;
      can = called shape false p d e refl same s.able (opened p false e shape (not_opening p a b the_memory.follows));
      leaves = leaves;
      remembers = h.remembers;
    }

  -- what is held again
  module _ (e : View) (z y : Store) (m : Numbers) (same : SameShape d e) (put : IsWithNet z y) (is : m ≡ numbers_of z) where
    refound : (k : Kept) → IsHeld e shape z k → Reopens (StandsHeld shape false (Some y) Nothing e) m k
    refound k h =
        let numbers = held_numbers e shape z k h in
        record {
          holding = record { able = able_on shape d e same s.able; called = refl; nothing = refl; held = held_with e shape z y k put h };
          boot = ap (λ (q : Numbers). q.boot) is ∙ numbers.boot;
          decisions = ap (λ (q : Numbers). q.decisions) is ∙ numbers.decisions;
        }

    pub refound_either : (a b : Kept) → IsHeld e shape z a ⊎ IsHeld e shape z b → Reopens (StandsHeld shape false (Some y) Nothing e) m a ⊎ Reopens (StandsHeld shape false (Some y) Nothing e) m b
    refound_either a b (inl h) = inl (refound a h)
    refound_either a b (inr h) = inr (refound b h)

-- what was opened, or opened anew, can be called
pub opened_callable : (d e : View) (shape : Shape) (z y : Store) → SameShape d e → IsAble shape d → IsWithNet z y → IsStanding e shape z → IsCallable shape false (Some y) Nothing e
opened_callable d e shape z y same able put stands = record {
  can = record { able = able_on shape d e same able; settled = λ is. absurd (cc is); opens = λ is. absurd (cc is) };
  store = record { called = refl; nothing = refl; stands = standing_with e shape z y put stands; net = net_with z y (last_boot y) put };
}

-- behind an opening anew that failed
pub failed_callable : (d e : View) (shape : Shape) (started : Bool) (o : Option Store) (p : Pending) → SameShape d e → StandsStarted shape started o p d → CanOpen p false e shape → IsCallable shape false o p e
failed_callable d e shape started o p same s opens = record {
  can = called shape false p d e refl same s.able opens;
  store = subst (λ v. IfSome v (IsGoing shape false p e)) (sym s.closed) tt;
}
