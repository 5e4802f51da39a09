use Rattle.pict_bridge.proofs.SourceToCore.{opens_well_typed, source_to_core}
use Rattle.pict_bridge.proofs.laws.law_source_to_core.Goals as goal

pub returns-clause-core : goal.returns-clause-core
returns-clause-core c = source_to_core

pub returns-clause-opening : goal.returns-clause-opening
returns-clause-opening c = opens_well_typed
