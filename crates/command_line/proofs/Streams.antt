-- What a request has beside its command: its files, whether comments are skipped and hints asked for, and numbers within their bounds.
use Rattle.std.proofs.Common.{rules, sym, subst, ◌≡◌, List, Option, Some, None}
use Rattle.std.specs.Prelude.{IfSome}
use Rattle.clap.specs.Walk.{Row, Text}
use Rattle.command_line.specs.declared.args.CommandRequest.{CommandRequest}
use Rattle.command_line.specs.declared.args.CommandRequest.TheVariants as request
use Rattle.command_line.specs.declared.args.Request.{Request}
use Rattle.command_line.specs.CommandLine.{HasNumbers, IsRequest}
use Rattle.command_line.specs.Streams.{HasStreams, HasStreamsOf}

-- the streams of the options are those of the command that was found
pub streams_moved : (found : Option (Text × List Row)) (name : Text) (rows : List Row) (r : Option Request) → found ≡ Some (name, rows)
    → IfSome r (HasStreams rows) → IfSome r (HasStreamsOf found)
streams_moved found name rows None is h = search rules
streams_moved found name rows (Some q) is h =
    subst (λ (f : Option (Text × List Row)). HasStreamsOf f q) (sym is) (record { input = h.input; output = h.output; comments = h.comments; hints = h.hints })

-- the streams of the command that was found are those of the words
pub streams_of_words : (found there : Option (Text × List Row)) (r : Option Request) → found ≡ there → IfSome r (HasStreamsOf found) → IfSome r (HasStreamsOf there)
streams_of_words found there r is h = subst (λ (f : Option (Text × List Row)). IfSome r (HasStreamsOf f)) is h

-- the numbers of a request that is asked for are within their bounds
numbers_in : (found : Option (Text × List Row)) (asked : CommandRequest) → IsRequest found asked → HasNumbers asked
numbers_in None asked is = absurd is
numbers_in (Some found) (request.Replay n d) is = (is.1.some, is.1.few)
numbers_in (Some found) (request.Run n t d) is = (is.1.some, is.1.few, is.2.some, is.2.few)
numbers_in (Some found) (request.Check n d) is = (is.1.some, is.1.few)
numbers_in (Some found) (request.Show n p f) is = (is.1.some, is.1.few)
numbers_in (Some found) (request.Dump n f) is = (is.1.some, is.1.few)
numbers_in (Some found) (request.Explain n p f) is = (is.1.some, is.1.few)
numbers_in (Some found) (request.Timeline n p q) is = (is.1.some, is.1.few)
numbers_in (Some found) (request.Stats n f) is = (is.1.some, is.1.few)
numbers_in (Some found) (request.Shell n) is = (is.1.some, is.1.few)

-- the numbers of the request of a command are within their bounds
pub numbers_asked : (found : Option (Text × List Row)) (r : Option Request) → IfSome r (λ q. IsRequest found q.command) → IfSome r (λ q. HasNumbers q.command)
numbers_asked found None h = search rules
numbers_asked found (Some q) h = numbers_in found q.command h
