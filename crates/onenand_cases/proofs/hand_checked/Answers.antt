use mathlib.Core.Path.{refl}
use Rattle.onenand_protection.specs.Protection.{tight_among}
use Rattle.onenand_transfer.specs.Transfers.{size, page_word, buffer_word, chosen}
use Rattle.onenand_cases.proofs.hand_checked.Goals as goal

-- each by computing the definition
pub returns : goal.returns
unfolding tight_among size page_word buffer_word chosen
returns c = record {
  masks = record { buffer = λ s. refl; page = λ s. refl };
  turns = record { taken = refl; free = refl; first = refl; then = refl; next = refl };
  last_word = record { of_block = refl; in_image = λ b. refl };
  ands = record { ends = refl; leaves = refl };
  long_load = refl;
  failed_checks = record { boot_chosen = refl; no_command = refl };
  unlocks = refl;
  tight_stays = record { protection = refl; interrupt = refl; status = refl; table = refl };
}
