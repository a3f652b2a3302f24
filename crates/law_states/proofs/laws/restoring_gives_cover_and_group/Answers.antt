use Rattle.law_states.proofs.Restored.{number-keys, restored-group, restored-locks}
use Rattle.law_states.proofs.laws.restoring_gives_cover_and_group.Goals as goal

pub returns : goal.returns
returns c = record {
  locks = (λ u b f ts mid new h s. restored-locks u b f ts mid new h s);
  group = (λ r key bs one two new k h g f. restored-group r key k bs one two new h g f);
  keys = number-keys;
}
