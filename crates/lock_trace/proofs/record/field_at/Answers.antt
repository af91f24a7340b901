use Rattle.std.proofs.Common.{◌∙◌, ◌≡◌, Option, Some, None, refl, List, ℕ, Bor, rules}
use Rattle.std.specs.Prelude.{IsSome, option_map}
use Rattle.csv.specs.Records.{fields_of}
use Rattle.lock_trace.proofs.RecordSteps.{some_field, field_is}
use Rattle.lock_trace.proofs.record.field_at.Goals as goal

-- An optional field whose value is some field is not `None`.
is_there : (o : Option (Bor (List ℕ))) (f : List ℕ) → option_map (λ s. s.now) o ≡ Some f → IsSome o
is_there None f e = absurd cc
is_there (Some x) f e = refl

pub unwrap-requires : goal.unwrap-requires
unwrap-requires c =
    let s = some_field (fields_of c.args.row.now) c.args.i c.requires in
    is_there c.get.result s.0 (c.get.ensures.value ∙ s.1)

pub returns : goal.returns
returns c = field_is (fields_of c.args.row.now) c.args.i c.unwrap.result.now (search rules)
