-- The steps of the worked rule.
use Rattle.std.proofs.Common.{◌≡◌, ℕ, List, Option, Some, None, Result, Ok, Err, sym}
use Rattle.sg_reading.specs.declared.stop.Stop.{Stop}
use Rattle.sg_reading.specs.declared.stop.Stop.TheVariants.{NoReply}
use Rattle.sg_reading.specs.declared.example.Answer.{Answer}
use Rattle.sg_reading.specs.declared.example.Query.{Query}
use Rattle.sg_reading.specs.Reading.{done, first_found}
use Rattle.sg_reading.specs.Stop.{Reads}
use Rattle.sg_reading.specs.Example.{place_of, declared_in, nearest}
use Rattle.sg_reading.proofs.Lists.{list_steps}
use Rattle.sg_reading.proofs.Steps.{ask_ok, ask_err, done_reads, reading_steps}

pub nearest_reads : (reply : Query → Option Answer) (blocks : List ℕ) (name : ℕ) (x : Result (Option ℕ) (Stop Query)) → Reads reply (first_found (declared_in name) blocks) x → Reads reply (nearest blocks name) x
unfolding nearest
nearest_reads reply blocks name x h = h

module _ (reply : Query → Option Answer) (name block : ℕ) where
  pub declared_ok : (a : Answer) (v : Option ℕ) → reply (record { block = block; name = name }) ≡ Some a → v ≡ place_of a → Reads reply (declared_in name block) (Ok v)
  unfolding declared_in
  declared_ok a v e k = ask_ok reply (record { block = block; name = name }) (λ a. done (place_of a)) a (Ok v) e (done_reads reply (place_of a) v (sym k))

  pub declared_err : reply (record { block = block; name = name }) ≡ None → Reads {U = Option ℕ} reply (declared_in name block) (Err (NoReply (record { block = block; name = name })))
  unfolding declared_in
  declared_err e = ask_err reply (record { block = block; name = name }) (λ a. done (place_of a)) e

pub ruleset example_steps = (reading_steps, declared_ok, declared_err, nearest_reads, list_steps)
