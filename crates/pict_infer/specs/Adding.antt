-- What patterns add, as the rules speak of it.
use Rattle.std.specs.Prelude.{◌+◌, length}
use Rattle.pict_rules.specs.Environments.{Extension}
use Rattle.pict_infer.specs.declared.added.Added.{Added}
use Rattle.pict_infer.specs.Knowing.{known_values, known_types}

abbrev pub extension_of : Added → Extension
extension_of x = record {
  binders = known_types x.binders.items;
  values = known_values (x.base + length x.binders.items) x.values.items;
}
