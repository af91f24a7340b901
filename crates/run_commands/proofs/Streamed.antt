-- How the writing and the threads of a run in pieces ended.
use Rattle.std.proofs.Common.{◌≡◌, ◌∙◌, ℕ, List, Option, None, Result, Ok, Err, IfOk, IfErr, subst, sym}
use Rattle.lock_rules.specs.Entries.{Entry}
use Rattle.replay_commands.specs.declared.tool_fault.ToolFault.{ToolFault}
use Rattle.run_commands.specs.declared.workers.Stop.{Stop}
use Rattle.run_commands.specs.declared.workers.Stop.TheVariants as stop
use Rattle.run_commands.specs.Streams.{IsFaultOfStream, IsWrittenUpTo}
use Rattle.run_commands.specs.Workers.{fault_of_stop}
use Rattle.run_commands.proofs.WrittenUpTo.{front_of, part_of_front}

-- what holds of the joined sessions holds of the sessions that are given back
pub of_joined : {V : Type 0} (P : V → Type 0) (result : Result (V × ℕ) ToolFault) (joined : Result V Stop) (written : Result ℕ ToolFault)
    → IfOk result (λ d. (joined ≡ Ok d.0) × (written ≡ Ok d.1)) → IfOk joined P → IfOk result (λ d. P d.0)
of_joined P (Err fault) joined written both is = tt
of_joined {V} P (Ok d) joined written both is = subst (λ (r : Result V Stop). IfOk r P) both.0 is

-- what holds of the number of written entries holds of the number that is given back
pub of_written : {V : Type 0} (P : ℕ → Type 0) (result : Result (V × ℕ) ToolFault) (joined : Result V Stop) (written : Result ℕ ToolFault)
    → IfOk result (λ d. (joined ≡ Ok d.0) × (written ≡ Ok d.1)) → IfOk written P → IfOk result (λ d. P d.1)
of_written P (Err fault) joined written both is = tt
of_written P (Ok d) joined written both is = subst (λ (r : Result ℕ ToolFault). IfOk r P) both.1 is

-- if all sessions were started, the joined ones have their numbers
pub all_joined : {V : Type 0} (numbers : V → List ℕ) (joined : Result V Stop) (reason : Option Stop) (starts sessions : List ℕ)
    → IfOk joined (λ _. reason ≡ None) → IfOk joined (λ v. numbers v ≡ starts) → (reason ≡ None → starts ≡ sessions) → IfOk joined (λ v. numbers v ≡ sessions)
all_joined numbers (Err s) reason starts sessions none are started = tt
all_joined numbers (Ok v) reason starts sessions none are started = are ∙ started none

-- a thread that stopped leaves the text of a legal history written
stopped : (next : ℕ) (front : List Entry) (old new : Option (List ℕ)) (reason : Stop) → IsWrittenUpTo next front old new → IsFaultOfStream old new (fault_of_stop reason)
stopped next front old new stop.NoMemory way = front_of next front old new way
stopped next front old new stop.Device way = part_of_front old new (front_of next front old new way)
stopped next front old new stop.GateShut way = front_of next front old new way
stopped next front old new stop.TurnLimit way = front_of next front old new way

-- the fault that is reported, of the writing or of a thread
reported : {V : Type 0} (fault : ToolFault) (joined : Result V Stop) (written : Result ℕ ToolFault) (front : List Entry) (old new : Option (List ℕ))
    → IfErr written (λ own. own ≡ fault) → IfOk written (λ _. IfErr joined (λ s. fault ≡ fault_of_stop s) × IfOk joined (λ _. ⊥))
    → IfErr written (λ own. IsFaultOfStream old new own) → IfOk written (λ next. IsWrittenUpTo next front old new) → IsFaultOfStream old new fault
reported fault joined (Err own) front old new writing thread failed way = subst (IsFaultOfStream old new) writing failed
reported fault (Err s) (Ok next) front old new writing thread failed way = subst (IsFaultOfStream old new) (sym thread.0) (stopped next front old new s way)
reported fault (Ok v) (Ok next) front old new writing thread failed way = absurd thread.1

-- the fault of the run
pub of_fault : {V : Type 0} (result : Result (V × ℕ) ToolFault) (joined : Result V Stop) (written : Result ℕ ToolFault) (front : List Entry) (old new : Option (List ℕ))
    → IfErr result (λ fault. IfErr written (λ own. own ≡ fault))
    → IfErr result (λ fault. IfOk written (λ _. IfErr joined (λ s. fault ≡ fault_of_stop s) × IfOk joined (λ _. ⊥)))
    → IfErr written (λ own. IsFaultOfStream old new own) → IfOk written (λ next. IsWrittenUpTo next front old new)
    → IfErr result (λ fault. IsFaultOfStream old new fault)
of_fault (Ok d) joined written front old new writing thread failed way = tt
of_fault (Err fault) joined written front old new writing thread failed way = reported fault joined written front old new writing thread failed way
