-- What a position of the code stands for.
use Rattle.pict_report.specs.Reports as reports
use Rattle.pict_report.specs.declared.report.Position.{Position}

abbrev pub plain_position : Position → reports.Position
plain_position p = record { name = p.name.now; row = p.row; column = p.column }
