use Rattle.std.proofs.Common.{rules, ◌≡◌, ℕ, ◌*◌, ◌/◌, ◌%◌, ◌^◌, ◌<◌, ◌||◌, eqb, length, get_or, set, sym, ◌∙◌, subst}
use Rattle.std.specs.Prelude.{bit_or}
use Rattle.std.proofs.lemmas.List.{get_or_default}
use Rattle.combining.specs.inner.EndedList.{has_bit}
use Rattle.sequential.proofs.BitRows.{bit-set}
use Rattle.combining.proofs.woken_set.set.Goals as goal

pub returns-clause-bits : goal.returns-clause-bits
returns-clause-bits c =
    let words = c.args.words.now.items in
    let k = c.args.k in
    let word = c.index-word.result.now in
    let long : c.args.words.now.len ≡ length words = search rules in
    let few : k / 64 < length words = subst (λ (m : ℕ). k / 64 < m) long c.requires in
    let same : get_or words (k / 64) 0 ≡ word = get_or_default words (k / 64) 0 word few ∙ sym c.index-word.ensures in
    subst (λ (w : ℕ). (j : ℕ) → has_bit (set words (k / 64) (bit_or w (1 * 2 ^ (k % 64) % 2 ^ 64))) j ≡ (has_bit words j || eqb j k)) same (bit-set words k few)
