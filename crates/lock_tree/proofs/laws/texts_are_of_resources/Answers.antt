use Rattle.lock_tree.proofs.Texts.{no_fault_iff, same_text}
use Rattle.lock_tree.proofs.laws.texts_are_of_resources.Goals as goal

pub returns : goal.returns
returns c = record { faultless = no_fault_iff; determined = same_text }
