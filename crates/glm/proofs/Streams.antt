-- What the outcome of a command on files says of the standard streams.
use Rattle.std.proofs.Common.{ap, inl, inr, refl, sym, subst, subst₂, ◌≡◌, ◌≢◌, ◌∙◌, ℕ, Bool, true, false, List, Option, Some, None, option_map}
use Rattle.std.specs.Io.KnownBytes.{Keeps}
use Rattle.std.proofs.KnownBytes.{Keeps-refl}
use Rattle.clap.specs.Walk.{Text}
use Rattle.clap.specs.Kinds.{IsAmong, Kinds}
use Rattle.clap.specs.Simple.{subcommand_of}
use Rattle.clap.specs.declared.error.kind.ErrorKind.TheVariants.{DisplayVersion}
use Rattle.command_line.specs.declared.args.CommandRequest.{CommandRequest}
use Rattle.command_line.specs.declared.args.Request.{Request}
use Rattle.command_line.specs.CommandLine.{Ask, AskVersion, glm_command}
use Rattle.command_line.specs.Streams.{HasStreamsOf, SkipComments, input_file, output_file}
use Rattle.lock_trace.specs.Comments.{text_read, without_comments}
use Rattle.glm.specs.declared.outcomes.Outcome.{Outcome}
use Rattle.glm.specs.declared.outcomes.Outcome.TheVariants as outcome
use Rattle.glm.specs.Outcomes.{HasDone}
use Rattle.glm.specs.Streams.{HasDoneInFile, HasDoneOnStreams, HasOutcome, IsFileFault}

-- standard output stays as it was if what was written did
kept_in : (words : List Text) (input old new : Option (List ℕ)) (o : Outcome) (s : HasDoneOnStreams words input old new o) → Keeps s.before s.after
    → (file : Option Text) → output_file words ≡ file → Keeps old new
kept_in words input old new o s kept None is = let (b, a) = s.prints is in subst₂ Keeps b a kept
kept_in words input old new o s kept (Some path) is = s.keeps (λ none. let bad : Some path ≡ None = sym is ∙ none in cc)

-- standard output stays as it was if what was written did
pub kept_on_streams : (words : List Text) (input old new : Option (List ℕ)) (o : Outcome) (s : HasDoneOnStreams words input old new o)
    → Keeps s.before s.after → Keeps old new
kept_on_streams words input old new o s kept = kept_in words input old new o s kept (output_file words) refl

-- a fact of every outcome that keeps what was written is one of standard output
pub kept_by_outcome : (words : List Text) (input old new : Option (List ℕ)) (o : Outcome) → HasOutcome words input old new o
    → ((read before after : Option (List ℕ)) → HasDone words read before after o → Keeps before after) → Keeps old new
kept_by_outcome words input old new (outcome.Replay answer) s kept = kept_on_streams words input old new _ s (kept _ _ _ s.has_done)
kept_by_outcome words input old new (outcome.ReplayInPieces answer) s kept = kept_on_streams words input old new _ s (kept _ _ _ s.has_done)
kept_by_outcome words input old new (outcome.Run answer) s kept = kept_on_streams words input old new _ s (kept _ _ _ s.has_done)
kept_by_outcome words input old new (outcome.RunInPieces answer) s kept = kept_on_streams words input old new _ s (kept _ _ _ s.has_done)
kept_by_outcome words input old new (outcome.Check answer) s kept = kept_on_streams words input old new _ s (kept _ _ _ s.has_done)
kept_by_outcome words input old new (outcome.Show answer) s kept = kept_on_streams words input old new _ s (kept _ _ _ s.has_done)
kept_by_outcome words input old new (outcome.Explain answer) s kept = kept_on_streams words input old new _ s (kept _ _ _ s.has_done)
kept_by_outcome words input old new (outcome.Timeline answer) s kept = kept_on_streams words input old new _ s (kept _ _ _ s.has_done)
kept_by_outcome words input old new (outcome.Dump answer) s kept = kept_on_streams words input old new _ s (kept _ _ _ s.has_done)
kept_by_outcome words input old new (outcome.Stats answer) s kept = kept_on_streams words input old new _ s (kept _ _ _ s.has_done)
kept_by_outcome words input old new (outcome.Shell answer) s kept = kept_on_streams words input old new _ s (kept s.read s.before s.after s.has_done)
kept_by_outcome words input old new outcome.HelpShown d kept = kept input old new d
kept_by_outcome words input old new outcome.HelpFailed d kept = kept input old new d
kept_by_outcome words input old new outcome.VersionShown d kept = kept input old new d
kept_by_outcome words input old new outcome.VersionFailed d kept = kept input old new d
kept_by_outcome words input old new outcome.Misused d kept = kept input old new d
kept_by_outcome words input old new outcome.OutOfMemory d kept = kept input old new d
kept_by_outcome words input old new outcome.FileFailed d kept = kept input old new d

-- the outcome on the standard streams, if the words name no file and don't skip comments
on_standard : (words : List Text) (input old new : Option (List ℕ)) (o : Outcome) → input_file words ≡ None → output_file words ≡ None → ¬ SkipComments words
    → HasDoneOnStreams words input old new o → HasDone words input old new o
on_standard words input old new o reads writes whole s =
    let (before, after) = s.prints writes in
    subst (λ (i : Option (List ℕ)). HasDone words i old new o) (s.reads reads whole)
    (subst₂ (λ (b a : Option (List ℕ)). HasDone words s.read b a o) before after s.has_done)

-- the outcome on the standard streams, if the words name no file and don't skip comments
pub standard : (words : List Text) (input old new : Option (List ℕ)) (o : Outcome) → input_file words ≡ None → output_file words ≡ None → ¬ SkipComments words
    → HasOutcome words input old new o → HasDone words input old new o
standard words input old new (outcome.Replay answer) r w c s = on_standard words input old new _ r w c s
standard words input old new (outcome.ReplayInPieces answer) r w c s = on_standard words input old new _ r w c s
standard words input old new (outcome.Run answer) r w c s = on_standard words input old new _ r w c s
standard words input old new (outcome.RunInPieces answer) r w c s = on_standard words input old new _ r w c s
standard words input old new (outcome.Check answer) r w c s = on_standard words input old new _ r w c s
standard words input old new (outcome.Show answer) r w c s = on_standard words input old new _ r w c s
standard words input old new (outcome.Explain answer) r w c s = on_standard words input old new _ r w c s
standard words input old new (outcome.Timeline answer) r w c s = on_standard words input old new _ r w c s
standard words input old new (outcome.Dump answer) r w c s = on_standard words input old new _ r w c s
standard words input old new (outcome.Stats answer) r w c s = on_standard words input old new _ r w c s
standard words input old new (outcome.Shell answer) r w c s = on_standard words input old new _ r w c s
standard words input old new outcome.HelpShown r w c d = d
standard words input old new outcome.HelpFailed r w c d = d
standard words input old new outcome.VersionShown r w c d = d
standard words input old new outcome.VersionFailed r w c d = d
standard words input old new outcome.Misused r w c d = d
standard words input old new outcome.OutOfMemory r w c d = d
standard words input old new outcome.FileFailed r w c d = d

-- words that ask for a command don't ask for the version
no_version : (words : List Text) (asked : CommandRequest) → Ask words asked → ¬ AskVersion words
no_version words asked ask version = subst (λ (kinds : Kinds). IsAmong DisplayVersion kinds) ask.whole version

-- the outcome of a command that words ask for, on the streams that they name
pub on_streams : (words : List Text) (asked : CommandRequest) (input old new : Option (List ℕ)) (o : Outcome) → Ask words asked
    → HasDoneOnStreams words input old new o → HasOutcome words input old new o
on_streams words asked input old new (outcome.Replay answer) ask s = s
on_streams words asked input old new (outcome.ReplayInPieces answer) ask s = s
on_streams words asked input old new (outcome.Run answer) ask s = s
on_streams words asked input old new (outcome.RunInPieces answer) ask s = s
on_streams words asked input old new (outcome.Check answer) ask s = s
on_streams words asked input old new (outcome.Show answer) ask s = s
on_streams words asked input old new (outcome.Explain answer) ask s = s
on_streams words asked input old new (outcome.Timeline answer) ask s = s
on_streams words asked input old new (outcome.Dump answer) ask s = s
on_streams words asked input old new (outcome.Stats answer) ask s = s
on_streams words asked input old new (outcome.Shell answer) ask s = s
on_streams words asked input old new outcome.HelpShown ask s = s.has_done
on_streams words asked input old new outcome.HelpFailed ask s = s.has_done
on_streams words asked input old new outcome.VersionShown ask s = absurd (no_version words asked ask s.has_done.0)
on_streams words asked input old new outcome.VersionFailed ask s = absurd (no_version words asked ask s.has_done.0)
on_streams words asked input old new outcome.Misused ask s = absurd (s.has_done.0.no_request asked ask)
on_streams words asked input old new outcome.OutOfMemory ask s = kept_on_streams words input old new _ s s.has_done
on_streams words asked input old new outcome.FileFailed ask s = kept_on_streams words input old new _ s s.has_done

-- a file that couldn't be written has the outcome of one of which no bytes are known
pub file_failed_in_file : (words : List Text) (input : Option (List ℕ)) (o : Outcome) → IsFileFault o → HasDoneInFile words input o
file_failed_in_file words input o (inl is) = (None, None, subst (λ (p : Outcome). HasDone words input None None p) (sym is) (Keeps-refl None))
file_failed_in_file words input o (inr is) = (None, None, subst (λ (p : Outcome). HasDone words input None None p) (sym is) (Keeps-refl None))

-- no file is named if none is named by its text
none_named : {A B : Type 0} (f : A → B) (file : Option A) → option_map f file ≡ None → file ≡ None
none_named f None is = refl
none_named f (Some a) is = cc

-- a flag that isn't set
not_set : (b : Bool) → ¬ (b ≡ true) → b ≡ false
not_set true isnt = absurd (isnt refl)
not_set false isnt = refl

-- the outcome of a command on the streams that its request names
pub of_request : (words : List Text) (request : Request) (input source read old new before after : Option (List ℕ)) (o : Outcome) → Ask words request.command
    → HasStreamsOf (subcommand_of glm_command words) request → (request.input ≡ None → source ≡ input) → read ≡ text_read request.skips_comments source
    → (request.output ≡ None → (before ≡ old) × (after ≡ new)) → (request.output ≢ None → Keeps old new)
    → HasDone words read before after o → HasOutcome words input old new o
of_request words request input source read old new before after o ask streams reads text prints keeps done =
    on_streams words request.command input old new o ask (record {
      read = read;
      before = before;
      after = after;
      reads = λ none whole. text ∙ ap (λ (b : Bool). text_read b source) (not_set request.skips_comments (λ set. whole (streams.comments.0 set)))
          ∙ reads (none_named _ request.input (streams.input ∙ none));
      skips = λ none skip. text ∙ ap (λ (b : Bool). text_read b source) (streams.comments.1 skip)
          ∙ ap (option_map without_comments) (reads (none_named _ request.input (streams.input ∙ none)));
      prints = λ none. prints (none_named _ request.output (streams.output ∙ none));
      keeps = λ some. keeps (λ none. some (sym streams.output ∙ ap (option_map (λ text. text.now)) none));
      has_done = done;
    })
