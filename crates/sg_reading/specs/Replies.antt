-- Replies to queries.
use Rattle.std.specs.Prelude.{◌≡◌, List, Option, Some, Bool, ◌⊎◌, ◌↔◌}
use Rattle.std.specs.Map.{lookup}
use Rattle.indexmap.specs.IndexMap.{insert_entry}

-- the reply to a query, where queries are told apart by this test
abbrev pub reply_of : {Q A : Type 0} → (Q → Q → Bool) → List (Q × A) → Q → Option A
reply_of same replies q = lookup (same q) replies

-- the replies with this one to this query: in place of an earlier one, or else last
abbrev pub with_reply : {Q A : Type 0} → (Q → Q → Bool) → List (Q × A) → Q → A → List (Q × A)
with_reply same replies q a = insert_entry same replies q a

-- the new replies are the old ones and this one to this query
abbrev pub AddsReply : {Q A : Type 0} → (Q → Option A) → (Q → Option A) → Q → A → Type 0
AddsReply {Q} {A} old new q a = (p : Q) (b : A) → (new p ≡ Some b) ↔ ((old p ≡ Some b) ⊎ ((p ≡ q) × (b ≡ a)))
