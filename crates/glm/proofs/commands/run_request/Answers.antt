use Rattle.std.proofs.Common.{ap, refl, sym, ◌≡◌, ◌∙◌, None, Some, Ok}
use Rattle.std.proofs.KnownBytes.{Keeps-refl}
use Rattle.either.specs.Either.{either}
use Rattle.either.specs.declared.Either.TheVariants.{Left}
use Rattle.lock_trace.specs.SkippingComments.{remaining_of}
use Rattle.glm.proofs.Streams.{of_request}
use Rattle.glm.proofs.commands.run_request.Goals as goal

pub returns-in-None : goal.returns-in-None
returns-in-None g c = λ words asked streams.
    of_request words c.args.request _ _ _ _ _ _ _ c.perform-outcome.result asked streams
    (λ none.
    let same : Ok c.in-Ok.source ≡ Ok (Left c.args.input) = sym c.in-Ok.is ∙ c.open_source.ensures none in
    let is : c.in-Ok.source ≡ Left c.args.input = cc in
    ap (either g.R.Read.remaining g.T.File.Read.remaining) is)
    (ap (remaining_of (either g.R.Read.remaining g.T.File.Read.remaining)) c.new-kept.ensures.source ∙ c.new-text.ensures)
    (λ _. (refl, refl)) (λ some. absurd (some c.in-None.is)) (c.perform-outcome.ensures words asked)

pub returns : goal.returns
returns g c = λ words asked streams.
    let (before, after, done) = c.perform_to_file-outcome.ensures words asked in
    of_request words c.args.request _ _ _ _ _ before after c.perform_to_file-outcome.result asked streams
    (λ none.
    let same : Ok c.in-Ok.source ≡ Ok (Left c.args.input) = sym c.in-Ok.is ∙ c.open_source.ensures none in
    let is : c.in-Ok.source ≡ Left c.args.input = cc in
    ap (either g.R.Read.remaining g.T.File.Read.remaining) is)
    (ap (remaining_of (either g.R.Read.remaining g.T.File.Read.remaining)) c.new-kept.ensures.source ∙ c.new-text.ensures)
    (λ none. let bad : Some c.in-Some.path ≡ None = sym c.in-Some.is ∙ none in cc) (λ some. Keeps-refl _) done
