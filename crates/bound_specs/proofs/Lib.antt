mod CellExamples
