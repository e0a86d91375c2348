-- Further words on stages and files, for contracts of code.
use Rattle.std.specs.{Prelude.{ℕ, Option, slice_get}, Option.option_map_or}
use Rattle.pc_base.specs.Lists.{◌>>=◌}
use Rattle.pc_core.specs.{declared.declarations.EntityDef.EntityDef, declared.declarations.Method.Method, declared.declarations.ParamInfo.ParamInfo, declared.nodes.Node.Node}

-- Where a part of the core starts in the source. What does not exist starts at 0.
abbrev pub entity_start : Option EntityDef → ℕ
entity_start entity = option_map_or (λ (x : EntityDef). x.span.start) entity 0

abbrev pub method_start : Option Method → ℕ
method_start method = option_map_or (λ (x : Method). x.span.start) method 0

abbrev pub param_start : Option ParamInfo → ℕ
param_start parameter = option_map_or (λ (x : ParamInfo). x.span.start) parameter 0

abbrev pub own_param_start : Option Method → ℕ → ℕ
own_param_start method i = param_start (method >>= λ (x : Method). slice_get x.params i)

abbrev pub node_start : Option Node → ℕ
node_start node = option_map_or (λ (x : Node). x.span.start) node 0
