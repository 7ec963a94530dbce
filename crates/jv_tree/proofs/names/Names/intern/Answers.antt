use Rattle.std.proofs.Common.{◌∙◌, ap, sym, position, cond, ◌++◌, ◌∷◌, []}
use Rattle.std.specs.String.{string_bytes}
use Rattle.std.specs.Str.{bytes_eq}
use Rattle.std.specs.List.{list_any}
use Rattle.jv_tree.proofs.Texts.{AreDistinct-texts, one_more_fits, position_seen, list_any_seen, found_text, interned, stored_text}
use Rattle.jv_tree.proofs.names.Names.intern.Goals as goal
use Rattle.jv_tree.proofs.names.Names.intern.Goals.{In-Some}

pub returns-in-Some-clause-number : goal.returns-in-Some-clause-number
returns-in-Some-clause-number c =
    found_text c.args.text.now c.args.self.now c.in-Some.index
    (sym (c.in-Some.ensures.index ∙ position_seen string_bytes (bytes_eq c.args.text.now) c.self.inside.texts.keys ∙ ap (position (bytes_eq c.args.text.now)) c.self.view_is))

pub returns-in-Some-clause-ok : goal.returns-in-Some-clause-ok
returns-in-Some-clause-ok c =
    ap (λ b. cond b c.args.self.now (c.args.self.now ++ c.args.text.now ∷ []))
    (c.in-Some.ensures.found ∙ list_any_seen string_bytes (bytes_eq c.args.text.now) c.self.inside.texts.keys ∙ ap (list_any (bytes_eq c.args.text.now)) c.self.view_is)

pub returns-clause-number : goal.returns-clause-number
returns-clause-number c =
    let s = c.in_ok-index.ensures.stored in
    stored_text c.args.text.now c.in_ok-owned.owned c.in_ok-owned.ensures.ok c.insert_full.new.self.keys c.in_ok-index.index s.0 s.1 s.2

pub returns-clause-ok : goal.returns-clause-ok
returns-clause-ok c =
    interned c.args.text.now c.in_ok-owned.owned c.in_ok-owned.ensures.ok c.self.inside.texts.keys c.insert_full.new.self.keys
    (sym c.in_default.ensures.found) c.in_ok-index.ensures.keys
    ∙ ap (λ m. cond (list_any (bytes_eq c.args.text.now) m) m (m ++ c.args.text.now ∷ [])) c.self.view_is

pub invariant_of-self-2 : goal.invariant_of-self-2
invariant_of-self-2 c = (one_more_fits c.self.inside.texts.keys c.insert_full.new.self.keys c.args.self.now c.in_ok-index.field-0-1 c.self.view_is c.requires c.in_ok-index.ensures.len, AreDistinct-texts c.insert_full.new.self.keys c.insert_full.ensures.unique)

pub returns-clause-distinct : goal.returns-clause-distinct
returns-clause-distinct c = AreDistinct-texts c.insert_full.new.self.keys c.insert_full.ensures.unique
