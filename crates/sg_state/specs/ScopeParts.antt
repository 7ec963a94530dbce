-- The parts of a scope's rows, and where each of them lies.
use Rattle.std.specs.Prelude.{◌≡◌, List, map, drop}
use Rattle.std.specs.List.{Contains, position_from}
use Rattle.std.specs.Map.{lookup}
use Rattle.sg_base.specs.List.{IsDistinct}
use Rattle.sg_base.specs.declared.scope.Scope.{Scope}
use Rattle.sg_state.specs.declared.part.Part.{Part}
use Rattle.sg_state.specs.Part.{HasIn, scope_of}
use Rattle.sg_state.specs.declared.scope_parts.ScopeParts.{ScopeParts}
use Rattle.sg_state.specs.SamePart.{is_part}

-- each part stands once, and those behind the first sixteen lie where the map has them
pub record AreScopeParts (p : ScopeParts) : Type 0 where
  pub once : IsDistinct (map (λ e. e.0) p.all.items)
  pub behind : (q : Part) → lookup (is_part q) p.behind.entries ≡ position_from (is_part q) 16 (drop 16 (map (λ e. e.0) p.all.items))

-- the parts of one scope's rows
abbrev pub parts_at : Scope × ScopeParts → List (Part × List Scope)
parts_at e = (e.1).all.items

-- each scope stands once, with parts of its own rows
pub record AreOwn (es : List (Scope × ScopeParts)) : Type 0 where
  pub once : IsDistinct (map (λ e. e.0) es)
  pub each : (s : Scope) (v : ScopeParts) → Contains es (s, v) → AreScopeParts v
  pub own : (s : Scope) (v : ScopeParts) (p : Part) (t : Scope) → Contains es (s, v) → HasIn v.all.items p t → scope_of p ≡ s
