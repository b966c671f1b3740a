use Rattle.row_lines.proofs.runs.RunLines.+put_days.Given as goal

-- a date that is followed stands before
abbrev pub decreases-put_days : goal.decreases-put_days
decreases-put_days l = l.column
